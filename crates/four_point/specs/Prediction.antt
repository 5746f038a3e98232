-- The prediction of a level's heights from the next coarser level, by four points with one rounding.
use Rattle.std.specs.Prelude.{ℕ, zero, suc, ℤ, pos, negsuc, ◌+ℤ◌, ◌-ℤ◌, ◌*ℤ◌}
use Rattle.clip_regions.specs.FloorDivision.{floor_div, floor_rem}

-- four heights in a row, by the weights -1, 9, 9 and -1
unfoldable pub weighted : ℤ → ℤ → ℤ → ℤ → ℤ
weighted before near far beyond = ((negsuc 0 *ℤ before +ℤ pos 9 *ℤ near) +ℤ pos 9 *ℤ far) +ℤ negsuc 0 *ℤ beyond

-- the weighted sum of the coarser heights at columns a - 1 to a + 2 of row b
unfoldable pub row_sum : (ℤ → ℤ → ℤ) → ℤ → ℤ → ℤ
row_sum coarser a b = weighted (coarser (a -ℤ pos 1) b) (coarser a b) (coarser (a +ℤ pos 1) b) (coarser (a +ℤ pos 2) b)

-- the weighted sum of the coarser heights at rows b - 1 to b + 2 of column a
unfoldable pub column_sum : (ℤ → ℤ → ℤ) → ℤ → ℤ → ℤ
column_sum coarser a b =
    weighted (coarser a (b -ℤ pos 1)) (coarser a b) (coarser a (b +ℤ pos 1)) (coarser a (b +ℤ pos 2))

-- the sum of the sixteen coarser heights round a place, each by the product of its two weights
unfoldable pub square_sum : (ℤ → ℤ → ℤ) → ℤ → ℤ → ℤ
square_sum coarser a b =
    weighted (row_sum coarser a (b -ℤ pos 1)) (row_sum coarser a b)
    (row_sum coarser a (b +ℤ pos 1)) (row_sum coarser a (b +ℤ pos 2))

-- the prediction at the cell with these remainders and halves of its column and row
unfoldable pub predicted : (ℤ → ℤ → ℤ) → ℕ → ℕ → ℤ → ℤ → ℤ
predicted coarser zero zero a b = coarser a b
predicted coarser (suc odd) zero a b = floor_div (row_sum coarser a b +ℤ pos 8) 16
predicted coarser zero (suc odd) a b = floor_div (column_sum coarser a b +ℤ pos 8) 16
predicted coarser (suc odd) (suc odd') a b = floor_div (square_sum coarser a b +ℤ pos 128) 256

-- the prediction of cell (i, j) from a table of coarser heights: an even place takes the coarser height unchanged
unfoldable pub prediction : (ℤ → ℤ → ℤ) → ℤ → ℤ → ℤ
prediction coarser i j = predicted coarser (floor_rem i 2) (floor_rem j 2) (floor_div i 2) (floor_div j 2)
