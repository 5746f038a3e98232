-- The patch of coarser heights round a block, as a table.
use Rattle.std.specs.Prelude.{ℕ, ◌+◌, ◌^◌, ℤ, pos, negsuc, neg_ℤ, ◌+ℤ◌, ◌-ℤ◌, ◌*ℤ◌, ◌≤ℤ◌, List, [], slice_index_or}
use Rattle.four_point.specs.declared.patch.Patch.{Patch}

-- the height in row b and column a of some rows, and 0 elsewhere
unfoldable pub table_height : List (List ℤ) → ℤ → ℤ → ℤ
table_height rows (pos a) (pos b) = slice_index_or (slice_index_or rows b []) a (pos 0)
table_height rows (pos a) (negsuc b) = pos 0
table_height rows (negsuc a) b = pos 0

-- the height that a patch has at a coarser cell, and 0 outside the patch
unfoldable pub patch_height : Patch → ℤ → ℤ → ℤ
patch_height patch a b = table_height patch.h (a -ℤ patch.i0) (b -ℤ patch.j0)

-- a coarser column or row, `before` more before it and `after` more after it lie in the patch that begins at `first`,
-- and near enough to zero
pub record IsCovered (first : ℤ) (before after : ℕ) (place : ℤ) : Type 0 where
  pub low : (first +ℤ pos before) ≤ℤ place
  pub high : (place +ℤ pos after) ≤ℤ (first +ℤ pos 6)
  pub not_far_before : (neg_ℤ (pos (2 ^ 30 + 1)) +ℤ pos before) ≤ℤ place
  pub not_far_after : (place +ℤ pos after) ≤ℤ pos (2 ^ 30 + 2)

-- the column or row is one of the eight of the block whose patch begins at `first`
pub record IsOfBlock (first cell : ℤ) : Type 0 where
  pub low : (pos 2 *ℤ first +ℤ pos 2) ≤ℤ cell
  pub high : cell ≤ℤ (pos 2 *ℤ first +ℤ pos 9)

-- the number is at most n in size
pub record IsAtMost (n : ℕ) (z : ℤ) : Type 0 where
  pub low : neg_ℤ (pos n) ≤ℤ z
  pub high : z ≤ℤ pos n

-- the column or row lies between -2^29 and 2^29
pub record IsPlace (place : ℤ) : Type 0 where
  pub low : neg_ℤ (pos (2 ^ 29)) ≤ℤ place
  pub high : place ≤ℤ pos (2 ^ 29)

-- the seven columns from i0 on and the seven rows from j0 on lie so
pub record IsPatchPlace (i0 j0 : ℤ) : Type 0 where
  pub column : IsPlace i0
  pub last_column : IsPlace (i0 +ℤ pos 6)
  pub row : IsPlace j0
  pub last_row : IsPlace (j0 +ℤ pos 6)
