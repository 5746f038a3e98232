-- The prediction of a cell, by the remainders and halves of its column and row.
use Rattle.std.proofs.Common.{◌≡◌, ℤ, pos, ◌+ℤ◌}
use Rattle.clip_regions.specs.FloorDivision.{floor_div, floor_rem}
use Rattle.four_point.specs.Prediction.{prediction, predicted, row_sum, column_sum, square_sum}

pub even_even : (coarser : ℤ → ℤ → ℤ) (i j a b result : ℤ) → floor_rem i 2 ≡ 0 → floor_rem j 2 ≡ 0 → a ≡ floor_div i 2 → b ≡ floor_div j 2 → result ≡ coarser a b → result ≡ prediction coarser i j
unfolding prediction predicted
even_even coarser i j a b result column row left top value = rw (column, row, ← left, ← top) value

pub odd_even : (coarser : ℤ → ℤ → ℤ) (i j a b sum result : ℤ) → floor_rem i 2 ≡ 1 → floor_rem j 2 ≡ 0 → a ≡ floor_div i 2 → b ≡ floor_div j 2 → sum ≡ row_sum coarser a b → result ≡ floor_div (sum +ℤ pos 8) 16 → result ≡ prediction coarser i j
unfolding prediction predicted
odd_even coarser i j a b sum result column row left top total value = rw (column, row, ← left, ← top, ← total) value

pub even_odd : (coarser : ℤ → ℤ → ℤ) (i j a b sum result : ℤ) → floor_rem i 2 ≡ 0 → floor_rem j 2 ≡ 1 → a ≡ floor_div i 2 → b ≡ floor_div j 2 → sum ≡ column_sum coarser a b → result ≡ floor_div (sum +ℤ pos 8) 16 → result ≡ prediction coarser i j
unfolding prediction predicted
even_odd coarser i j a b sum result column row left top total value = rw (column, row, ← left, ← top, ← total) value

pub odd_odd : (coarser : ℤ → ℤ → ℤ) (i j a b sum result : ℤ) → floor_rem i 2 ≡ 1 → floor_rem j 2 ≡ 1 → a ≡ floor_div i 2 → b ≡ floor_div j 2 → sum ≡ square_sum coarser a b → result ≡ floor_div (sum +ℤ pos 128) 256 → result ≡ prediction coarser i j
unfolding prediction predicted
odd_odd coarser i j a b sum result column row left top total value = rw (column, row, ← left, ← top, ← total) value
