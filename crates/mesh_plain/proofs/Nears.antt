-- What the tests of a region's corners show.
use Rattle.std.proofs.Common.{◌≡◌, ℕ, zero, suc, ◌+◌, ◌-◌, ◌*◌, ◌^◌, ◌<◌, ◌≤◌, Bool, true, false, ◌&&◌, ℤ, pos, negsuc, neg_ℤ, ◌*ℤ◌, ◌≤ℤ◌, ◌%◌, w32, refl, ap, sym, subst, ◌∙◌, arith}
use Rattle.std.specs.Prelude.{int_le, IsTrue, nat_lt}
use Rattle.std.proofs.Math.Nat.{pow-le-pow_right, le_of_mul-le-mul_right}
use Rattle.std.proofs.Math.IntN.{pos-*ℤ-pos, negsuc-*ℤ-pos}
use Rattle.std.proofs.lemmas.Bool.{true≢false, ltb-true, lt-ltb}
use Rattle.std.proofs.lemmas.Int.{ints}
use Rattle.std.proofs.lemmas.Nat.{pow-add, pow_pos}
use Rattle.mesh_plain_heights.specs.Placed.{IsPlacedAt}
use Rattle.mesh_plain.proofs.Between.{scaled}
use mir.Val.{to_z}

both : (a b : Bool) → (a && b) ≡ true → (a ≡ true) × (b ≡ true)
both true b h = (refl, h)
both false b h = absurd (true≢false (sym h))

le_is : (a b : ℤ) → int_le a b ≡ true → a ≤ℤ b
le_is a b h = grind (arith, ints)

neg_scaled : (m s : ℕ) → neg_ℤ (pos m) *ℤ pos s ≡ neg_ℤ (pos (m * s))
neg_scaled zero s = omega (arith, ints, pos-*ℤ-pos 0 s)
neg_scaled (suc m) s = omega (arith, ints, negsuc-*ℤ-pos m s)

-- as far as a level reaches, and its spacing
whole_reach : (level : ℕ) → level < 12 → 2 ^ (24 - level) * 2 ^ level ≡ 2 ^ 24
whole_reach level h =
    let parts : 24 - level + level ≡ 24 = omega arith in
    sym (pow-add 2 (24 - level) level) ∙ ap (λ (n : ℕ). 2 ^ n) parts

reach_few : (level : ℕ) → 2 ^ (24 - level) ≤ 2 ^ 24
reach_few level = let less : 24 - level ≤ 24 = omega arith in pow-le-pow_right (omega arith) less

near_is : (level m : ℕ) (i : ℤ) → m * 2 ^ level ≡ 2 ^ 24 → m ≤ 2 ^ 24 → neg_ℤ (pos m) ≤ℤ i → i ≤ℤ pos m → IsPlacedAt level i
near_is level m i whole few from to = record {
  low = omega (arith, ints, whole, neg_scaled m (2 ^ level), scaled (neg_ℤ (pos m)) i (2 ^ level) from);
  high = omega (arith, ints, whole, pos-*ℤ-pos m (2 ^ level), scaled i (pos m) (2 ^ level) to);
  small_low = omega (arith, ints);
  small_high = omega (arith, ints);
}

pub placed_is : (level : ℕ) (i j : ℤ) (found : Bool) → level < 12 → j ≡ i → found ≡ (int_le (neg_ℤ (pos (2 ^ (24 - level)))) j && int_le j (pos (2 ^ (24 - level)))) → found ≡ true → IsPlacedAt level i
placed_is level i j found h same test holds =
    let parts = both (int_le (neg_ℤ (pos (2 ^ (24 - level)))) j) (int_le j (pos (2 ^ (24 - level)))) (sym test ∙ holds) in
    subst (IsPlacedAt level) same
    (near_is level (2 ^ (24 - level)) j (whole_reach level h) (reach_few level) (le_is (neg_ℤ (pos (2 ^ (24 - level)))) j parts.0) (le_is j (pos (2 ^ (24 - level))) parts.1))

le_of : (a b : ℤ) → a ≤ℤ b → int_le a b ≡ true
le_of a b h = grind (arith, ints)

both_hold : (a b : Bool) → a ≡ true → b ≡ true → (a && b) ≡ true
both_hold true b e f = f
both_hold false b e f = e

upper : (i : ℤ) (m s : ℕ) → 0 < s → (i *ℤ pos s) ≤ℤ pos (m * s) → i ≤ℤ pos m
upper (pos n) m s some h =
    let below : n * s ≤ m * s = omega (arith, ints, pos-*ℤ-pos n s, h) in
    let few : n ≤ m = le_of_mul-le-mul_right below some in
    omega (arith, ints)
upper (negsuc n) m s some h = omega (arith, ints)

lower : (i : ℤ) (m s : ℕ) → 0 < s → neg_ℤ (pos (m * s)) ≤ℤ (i *ℤ pos s) → neg_ℤ (pos m) ≤ℤ i
lower (pos n) m s some h = omega (arith, ints)
lower (negsuc n) m s some h =
    let below : (n + 1) * s ≤ m * s = omega (arith, ints, negsuc-*ℤ-pos n s, h) in
    let few : n + 1 ≤ m = le_of_mul-le-mul_right below some in
    omega (arith, ints)

within_is : (level m : ℕ) (i : ℤ) → m * 2 ^ level ≡ 2 ^ 24 → IsPlacedAt level i → (int_le (neg_ℤ (pos m)) i && int_le i (pos m)) ≡ true
within_is level m i whole placed =
    both_hold (int_le (neg_ℤ (pos m)) i) (int_le i (pos m))
    (le_of (neg_ℤ (pos m)) i (lower i m (2 ^ level) (pow_pos level) (subst (λ (n : ℕ). neg_ℤ (pos n) ≤ℤ (i *ℤ pos (2 ^ level))) (sym whole) placed.low)))
    (le_of i (pos m) (upper i m (2 ^ level) (pow_pos level) (subst (λ (n : ℕ). (i *ℤ pos (2 ^ level)) ≤ℤ pos n) (sym whole) placed.high)))

pub placed_test : (level : ℕ) (i j : ℤ) (found : Bool) → level < 12 → j ≡ i → found ≡ (int_le (neg_ℤ (pos (2 ^ (24 - level)))) j && int_le j (pos (2 ^ (24 - level)))) → IsPlacedAt level i → found ≡ true
placed_test level i j found h same test placed =
    test ∙ within_is level (2 ^ (24 - level)) j (whole_reach level h) (subst (IsPlacedAt level) (sym same) placed)

pub reach_is : (level : ℕ) → to_z w32 (1 * 2 ^ (24 - level) % 4294967296) ≡ pos (2 ^ (24 - level))
reach_is level = let few = reach_few level in omega (arith, ints, few)

-- a number below a limit, and an equal one
pub few_is : (a b : ℕ) → a ≡ b → (IsTrue (nat_lt a 2147483648) → b < 2147483648) × (b < 2147483648 → IsTrue (nat_lt a 2147483648))
few_is a b e =
    ((λ h. let below : a < 2147483648 = ltb-true a 2147483648 h in omega arith), (λ h. let below : a < 2147483648 = omega arith in lt-ltb a 2147483648 below))
