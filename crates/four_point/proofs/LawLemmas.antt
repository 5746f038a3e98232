-- How large a residual is, and that the residual at an even place is 0.
use Rattle.std.proofs.Common.{◌≡◌, ℕ, zero, suc, ℤ, pos, negsuc, neg_ℤ, ◌+◌, ◌*◌, ◌^◌, ◌<◌, ◌+ℤ◌, ◌-ℤ◌, ◌*ℤ◌, ◌≤ℤ◌, unsigned_abs, FitsSigned, ap, ◌∙◌, refl, arith}
use Rattle.std.specs.Int.{w16}
use Rattle.std.proofs.lemmas.Int.{ints}
use Rattle.clip_regions.specs.FloorDivision.{floor_div, floor_rem}
use Rattle.four_point.specs.Prediction.{weighted, row_sum, column_sum, square_sum, predicted, prediction}
use Rattle.four_point.specs.Patches.{IsAtMost}

-- a weighted sum is at most twenty times as large as its parts
weighted_size : (n : ℕ) (p q r s : ℤ) → IsAtMost n p → IsAtMost n q → IsAtMost n r → IsAtMost n s → IsAtMost (20 * n) (weighted p q r s)
unfolding weighted
weighted_size n p q r s ep eq er es = record { low = omega (arith, ints); high = omega (arith, ints) }

short_size : (z : ℤ) → FitsSigned w16 z → IsAtMost 32768 z
short_size z fits = record { low = omega (arith, ints); high = omega (arith, ints) }

over_16 : (z : ℤ) → IsAtMost 655368 z → IsAtMost 51200 (floor_div z 16)
unfolding floor_div
over_16 (pos n) size = record { low = omega (arith, ints); high = omega (arith, ints) }
over_16 (negsuc n) size = record { low = omega (arith, ints); high = omega (arith, ints) }

sixteenth_size : (z : ℤ) → IsAtMost 655360 z → IsAtMost 51200 (floor_div (z +ℤ pos 8) 16)
sixteenth_size z size = over_16 (z +ℤ pos 8) (record { low = omega (arith, ints); high = omega (arith, ints) })

over_256 : (z : ℤ) → neg_ℤ (pos 13107072) ≤ℤ z → z ≤ℤ pos 13107328 → IsAtMost 51200 (floor_div z 256)
unfolding floor_div
over_256 (pos n) low high = record { low = omega (arith, ints); high = omega (arith, ints) }
over_256 (negsuc n) low high = record { low = omega (arith, ints); high = omega (arith, ints) }

part_size : (z : ℤ) → IsAtMost 13107200 z → IsAtMost 51200 (floor_div (z +ℤ pos 128) 256)
part_size z size = over_256 (z +ℤ pos 128) (omega (arith, ints)) (omega (arith, ints))

row_size : (coarser : ℤ → ℤ → ℤ) → ((a b : ℤ) → FitsSigned w16 (coarser a b)) → (a b : ℤ) → IsAtMost 655360 (row_sum coarser a b)
unfolding row_sum
row_size coarser short a b =
    weighted_size 32768 (coarser (a -ℤ pos 1) b) (coarser a b) (coarser (a +ℤ pos 1) b) (coarser (a +ℤ pos 2) b)
    (short_size (coarser (a -ℤ pos 1) b) (short (a -ℤ pos 1) b)) (short_size (coarser a b) (short a b)) (short_size (coarser (a +ℤ pos 1) b) (short (a +ℤ pos 1) b)) (short_size (coarser (a +ℤ pos 2) b) (short (a +ℤ pos 2) b))

column_size : (coarser : ℤ → ℤ → ℤ) → ((a b : ℤ) → FitsSigned w16 (coarser a b)) → (a b : ℤ) → IsAtMost 655360 (column_sum coarser a b)
unfolding column_sum
column_size coarser short a b =
    weighted_size 32768 (coarser a (b -ℤ pos 1)) (coarser a b) (coarser a (b +ℤ pos 1)) (coarser a (b +ℤ pos 2))
    (short_size (coarser a (b -ℤ pos 1)) (short a (b -ℤ pos 1))) (short_size (coarser a b) (short a b)) (short_size (coarser a (b +ℤ pos 1)) (short a (b +ℤ pos 1))) (short_size (coarser a (b +ℤ pos 2)) (short a (b +ℤ pos 2)))

square_size : (coarser : ℤ → ℤ → ℤ) → ((a b : ℤ) → FitsSigned w16 (coarser a b)) → (a b : ℤ) → IsAtMost 13107200 (square_sum coarser a b)
unfolding square_sum
square_size coarser short a b =
    weighted_size 655360 (row_sum coarser a (b -ℤ pos 1)) (row_sum coarser a b) (row_sum coarser a (b +ℤ pos 1)) (row_sum coarser a (b +ℤ pos 2))
    (row_size coarser short a (b -ℤ pos 1)) (row_size coarser short a b) (row_size coarser short a (b +ℤ pos 1)) (row_size coarser short a (b +ℤ pos 2))

pub predicted_size : (coarser : ℤ → ℤ → ℤ) → ((a b : ℤ) → FitsSigned w16 (coarser a b)) → (column row : ℕ) (a b : ℤ) → IsAtMost 51200 (predicted coarser column row a b)
unfolding predicted
predicted_size coarser short zero zero a b =
    let size : IsAtMost 32768 (coarser a b) = short_size (coarser a b) (short a b) in
    record { low = omega (arith, ints); high = omega (arith, ints) }
predicted_size coarser short (suc odd) zero a b = sixteenth_size (row_sum coarser a b) (row_size coarser short a b)
predicted_size coarser short zero (suc odd) a b = sixteenth_size (column_sum coarser a b) (column_size coarser short a b)
predicted_size coarser short (suc odd) (suc odd') a b = part_size (square_sum coarser a b) (square_size coarser short a b)

pub prediction_size : (coarser : ℤ → ℤ → ℤ) (i j : ℤ) → ((a b : ℤ) → FitsSigned w16 (coarser a b)) → IsAtMost 51200 (prediction coarser i j)
unfolding prediction
prediction_size coarser i j short = predicted_size coarser short (floor_rem i 2) (floor_rem j 2) (floor_div i 2) (floor_div j 2)

pub residual_size : (coarser : ℤ → ℤ → ℤ) (i j height : ℤ) → ((a b : ℤ) → FitsSigned w16 (coarser a b)) → FitsSigned w16 height → unsigned_abs (height -ℤ prediction coarser i j) < 2 ^ 17
unfolding prediction
residual_size coarser i j height short fits =
    let size : IsAtMost 51200 (predicted coarser (floor_rem i 2) (floor_rem j 2) (floor_div i 2) (floor_div j 2)) =
    predicted_size coarser short (floor_rem i 2) (floor_rem j 2) (floor_div i 2) (floor_div j 2) in
    omega (arith, ints)

doubled : (n : ℕ) → pos 2 *ℤ negsuc n ≡ negsuc (2 * n + 1)
doubled n = omega (arith, ints)

pub even_rem : (a : ℤ) → floor_rem (pos 2 *ℤ a) 2 ≡ 0
unfolding floor_rem
even_rem (pos n) = omega arith
even_rem (negsuc n) = rw (doubled n) (omega arith)

pub even_div : (a : ℤ) → floor_div (pos 2 *ℤ a) 2 ≡ a
unfolding floor_div
even_div (pos n) = ap pos (omega arith)
even_div (negsuc n) = rw (doubled n) (ap negsuc (omega arith))

pub even_prediction : (coarser : ℤ → ℤ → ℤ) (a b : ℤ) → prediction coarser (pos 2 *ℤ a) (pos 2 *ℤ b) ≡ coarser a b
unfolding prediction predicted
even_prediction coarser a b = rw (even_rem a, even_rem b, even_div a, even_div b) refl

pub even_residual : (finer coarser : ℤ → ℤ → ℤ) → ((a b : ℤ) → coarser a b ≡ finer (pos 2 *ℤ a) (pos 2 *ℤ b)) → (a b : ℤ) → finer (pos 2 *ℤ a) (pos 2 *ℤ b) -ℤ prediction coarser (pos 2 *ℤ a) (pos 2 *ℤ b) ≡ pos 0
even_residual finer coarser taken a b =
    let e : prediction coarser (pos 2 *ℤ a) (pos 2 *ℤ b) ≡ finer (pos 2 *ℤ a) (pos 2 *ℤ b) = even_prediction coarser a b ∙ taken a b in
    omega (arith, ints)
