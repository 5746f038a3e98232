-- The coarser cells round a placed cell can be asked for.
use Rattle.std.proofs.Common.{◌≡◌, ℕ, zero, suc, ◌+◌, ◌*◌, ◌/◌, ◌^◌, ◌<◌, ◌≤◌, ℤ, pos, negsuc, neg_ℤ, ◌+ℤ◌, ◌*ℤ◌, ◌≤ℤ◌, ap, ◌∙◌, arith}
use Rattle.std.proofs.Math.Nat.{mul-le-mul_right}
use Rattle.std.proofs.Math.Pow.{pow_mono}
use Rattle.std.proofs.Math.IntN.{pos-*ℤ-pos, negsuc-*ℤ-pos}
use Rattle.std.proofs.lemmas.Nat.{pow-add}
use Rattle.std.proofs.lemmas.Int.{ints}
use Rattle.clip_regions.specs.FloorDivision.{floor_div}
use Rattle.height_pyramid.specs.Reach.{IsInReach}
use Rattle.mesh_model.specs.Height.{lower_end, upper_end}
use Rattle.mesh_plain_heights.specs.Placed.{IsPlacedAt}

doubled_power : (n : ℕ) → 2 ^ (n + 1) ≡ 2 * 2 ^ n
doubled_power n = pow-add 2 n 1 ∙ omega arith

half_low : (x : ℤ) (s : ℕ) → s ≤ 2 ^ 11 → neg_ℤ (pos (2 ^ 25)) ≤ℤ (x *ℤ pos s) → neg_ℤ (pos (2 ^ 30)) ≤ℤ (floor_div x 2 *ℤ pos (2 * s))
unfolding floor_div
half_low (pos n) s small low = omega (arith, ints, pos-*ℤ-pos (n / 2) (2 * s))
half_low (negsuc n) s small low =
    let below : (n / 2 + 1) * 2 ≤ n + 2 = omega arith in
    omega (arith, ints, negsuc-*ℤ-pos (n / 2) (2 * s), negsuc-*ℤ-pos n s, mul-le-mul_right s below)

half_high : (x : ℤ) (s : ℕ) → (x *ℤ pos s) ≤ℤ pos (2 ^ 25) → (floor_div x 2 *ℤ pos (2 * s)) ≤ℤ pos (2 ^ 30)
unfolding floor_div
half_high (pos n) s high =
    let below : n / 2 * 2 ≤ n = omega arith in
    omega (arith, ints, pos-*ℤ-pos (n / 2) (2 * s), pos-*ℤ-pos n s, mul-le-mul_right s below)
half_high (negsuc n) s high = omega (arith, ints, negsuc-*ℤ-pos (n / 2) (2 * s))

half_reach : (level : ℕ) (x : ℤ) → level < 12 → neg_ℤ (pos (2 ^ 25)) ≤ℤ (x *ℤ pos (2 ^ level)) → (x *ℤ pos (2 ^ level)) ≤ℤ pos (2 ^ 25) → IsInReach (level + 1) (floor_div x 2)
half_reach level x few low high =
    let within : level ≤ 11 = omega arith in
    let small : 2 ^ level ≤ 2 ^ 11 = pow_mono within in
    record {
      low = rw (doubled_power level) (half_low x (2 ^ level) small low);
      high = rw (doubled_power level) (half_high x (2 ^ level) high);
    }

pub lower_reach : (level : ℕ) (i : ℤ) → level < 12 → IsPlacedAt level i → IsInReach (level + 1) (lower_end i)
unfolding lower_end
lower_reach level i few placed =
    half_reach level i few (omega (arith, ints, placed.low)) (omega (arith, ints, placed.high))

next_times : (i : ℤ) (s : ℕ) → (i +ℤ pos 1) *ℤ pos s ≡ i *ℤ pos s +ℤ pos s
next_times (pos n) s = omega (arith, ints, pos-*ℤ-pos (n + 1) s, pos-*ℤ-pos n s)
next_times (negsuc zero) s = omega (arith, ints, pos-*ℤ-pos 0 s, negsuc-*ℤ-pos 0 s)
next_times (negsuc (suc n)) s =
    let next : negsuc (suc n) +ℤ pos 1 ≡ negsuc n = omega (arith, ints) in
    let step : negsuc n *ℤ pos s ≡ negsuc (suc n) *ℤ pos s +ℤ pos s = omega (arith, ints, negsuc-*ℤ-pos n s, negsuc-*ℤ-pos (suc n) s) in
    ap (λ (z : ℤ). z *ℤ pos s) next ∙ step

pub upper_reach : (level : ℕ) (i : ℤ) → level < 12 → IsPlacedAt level i → IsInReach (level + 1) (upper_end i)
unfolding upper_end
upper_reach level i few placed =
    let within : level ≤ 11 = omega arith in
    let small : 2 ^ level ≤ 2 ^ 11 = pow_mono within in
    let next : (i +ℤ pos 1) *ℤ pos (2 ^ level) ≡ i *ℤ pos (2 ^ level) +ℤ pos (2 ^ level) = next_times i (2 ^ level) in
    half_reach level (i +ℤ pos 1) few (omega (arith, ints, placed.low, next, small)) (omega (arith, ints, placed.high, next, small))
