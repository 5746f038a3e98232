-- A signed number that went to its bits and was read again, powers of two, and products of sums.
use Rattle.std.proofs.Common.{◌≡◌, ℕ, ◌+◌, ◌*◌, ◌^◌, ◌≤◌, ℤ, pos, ◌+ℤ◌, ◌-ℤ◌, ◌*ℤ◌, ap, ◌∙◌, arith}
use Rattle.std.proofs.lemmas.Int.{ints}
use Rattle.std.proofs.Math.Pow.{pow_mono}
use Rattle.std.proofs.lemmas.Nat.{pow-add}
use borrow.Author.Differences.{up, down, sum_is_lem, product_is}

pub power_least : (a b : ℕ) → a ≤ b → 2 ^ a ≤ 2 ^ b
power_least a b h = pow_mono h

pub doubled_power : (n : ℕ) → 2 ^ (n + 1) ≡ 2 * 2 ^ n
doubled_power n = pow-add 2 n 1 ∙ omega arith

-- a sum times a natural number
pub sum_times : (a b : ℤ) (p : ℕ) → (a +ℤ b) *ℤ pos p ≡ a *ℤ pos p +ℤ b *ℤ pos p
sum_times a b p =
    let scaled : (up (a +ℤ b) + (down a + down b)) * p ≡ (down (a +ℤ b) + (up a + up b)) * p = ap (λ (n : ℕ). n * p) (omega (arith, sum_is_lem a b)) in
    omega (arith, ints, scaled)

-- a difference times a natural number
pub difference_times : (a : ℤ) (h p : ℕ) → (a -ℤ pos h) *ℤ pos p ≡ a *ℤ pos p -ℤ pos (h * p)
difference_times a h p =
    let parts : up (a -ℤ pos h) + (down a + h) ≡ down (a -ℤ pos h) + up a = omega (arith, ints) in
    let scaled : (up (a -ℤ pos h) + (down a + h)) * p ≡ (down (a -ℤ pos h) + up a) * p = ap (λ (n : ℕ). n * p) parts in
    omega (arith, ints, scaled)

-- twice a number, times a natural number
pub twice_times : (q : ℤ) (p : ℕ) → (pos 2 *ℤ q) *ℤ pos p ≡ pos (2 * p) *ℤ q
twice_times q p =
    let above : up (pos 2 *ℤ q) ≡ 2 * up q = omega (arith, product_is (pos 2) q) in
    let below : down (pos 2 *ℤ q) ≡ 2 * down q = omega (arith, product_is (pos 2) q) in
    let scaled_above : up (pos 2 *ℤ q) * p ≡ (2 * up q) * p = ap (λ (n : ℕ). n * p) above in
    let scaled_below : down (pos 2 *ℤ q) * p ≡ (2 * down q) * p = ap (λ (n : ℕ). n * p) below in
    omega (arith, ints, scaled_above, scaled_below)
