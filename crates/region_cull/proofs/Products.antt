-- Products and sums of numbers that are small enough.
use Rattle.std.proofs.Common.{◌≡◌, ℕ, ◌*◌, ◌^◌, ◌≤◌, ℤ, pos, negsuc, ◌+ℤ◌, ◌*ℤ◌, FitsSigned, w32, arith}
use Rattle.std.specs.Prelude.{unsigned_abs}
use Rattle.std.proofs.Math.Nat.{mul-le-mul_left, mul-le-mul_right}
use Rattle.std.proofs.lemmas.Int.{ints, unsigned_abs-mul}
use mir.Syntax.{w128}
use mir.Val.{to_z, of_z, SFits}
use Rattle.region_cull.specs.Views.{IsNearZero}

size_of : (n : ℕ) (z : ℤ) → IsNearZero n z → unsigned_abs z ≤ n
size_of n (pos m) h = omega (arith, ints, h.high)
size_of n (negsuc m) h = omega (arith, ints, h.low)

within : (n : ℕ) (z : ℤ) → unsigned_abs z ≤ n → IsNearZero n z
within n (pos m) h = record { low = omega (arith, ints); high = omega (arith, ints) }
within n (negsuc m) h = record { low = omega (arith, ints); high = omega (arith, ints) }

pub product_within : (m n : ℕ) (a b : ℤ) → IsNearZero m a → IsNearZero n b → IsNearZero (m * n) (a *ℤ b)
product_within m n a b first second =
    let left : unsigned_abs a ≤ m = size_of m a first in
    let right : unsigned_abs b ≤ n = size_of n b second in
    let sizes : unsigned_abs (a *ℤ b) ≡ unsigned_abs a * unsigned_abs b = unsigned_abs-mul a b in
    within (m * n) (a *ℤ b) (omega (arith, sizes, mul-le-mul_right (unsigned_abs b) left, mul-le-mul_left m right))

-- a number of 32 bits
pub of_32_bits : (z : ℤ) → SFits w32 z → IsNearZero (2 ^ 31) z
of_32_bits z fits = record { low = omega (arith, ints, fits); high = omega (arith, ints, fits) }

-- the sums of the value at a corner, with 128 bits
pub sum_read : (a b d e : ℤ) → IsNearZero (2 ^ 62) a → IsNearZero (2 ^ 62) b → IsNearZero (2 ^ 62) d → IsNearZero (2 ^ 63) e → to_z w128 (of_z w128 (to_z w128 (of_z w128 (to_z w128 (of_z w128 (to_z w128 (of_z w128 (pos 32 *ℤ to_z w128 (of_z w128 a))) +ℤ to_z w128 (of_z w128 b))) +ℤ to_z w128 (of_z w128 (pos 32 *ℤ to_z w128 (of_z w128 d))))) +ℤ to_z w128 (of_z w128 (pos 32 *ℤ to_z w128 (of_z w128 e))))) ≡ pos 32 *ℤ a +ℤ b +ℤ pos 32 *ℤ d +ℤ pos 32 *ℤ e
sum_read a b d e ha hb hd he = omega (arith, ints, ha.low, ha.high, hb.low, hb.high, hd.low, hd.high, he.low, he.high)

pub first_sum_fits : (a b d : ℤ) → IsNearZero (2 ^ 62) a → IsNearZero (2 ^ 62) b → IsNearZero (2 ^ 62) d → FitsSigned w128 (to_z w128 (of_z w128 (to_z w128 (of_z w128 (pos 32 *ℤ to_z w128 (of_z w128 a))) +ℤ to_z w128 (of_z w128 b))) +ℤ to_z w128 (of_z w128 (pos 32 *ℤ to_z w128 (of_z w128 d))))
first_sum_fits a b d ha hb hd = omega (arith, ints, ha.low, ha.high, hb.low, hb.high, hd.low, hd.high)

pub sum_fits : (a b d e : ℤ) → IsNearZero (2 ^ 62) a → IsNearZero (2 ^ 62) b → IsNearZero (2 ^ 62) d → IsNearZero (2 ^ 63) e → FitsSigned w128 (to_z w128 (of_z w128 (to_z w128 (of_z w128 (to_z w128 (of_z w128 (pos 32 *ℤ to_z w128 (of_z w128 a))) +ℤ to_z w128 (of_z w128 b))) +ℤ to_z w128 (of_z w128 (pos 32 *ℤ to_z w128 (of_z w128 d))))) +ℤ to_z w128 (of_z w128 (pos 32 *ℤ to_z w128 (of_z w128 e))))
sum_fits a b d e ha hb hd he = omega (arith, ints, ha.low, ha.high, hb.low, hb.high, hd.low, hd.high, he.low, he.high)
