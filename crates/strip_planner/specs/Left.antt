-- The pieces that a walk over a region has left.
use Rattle.std.specs.Prelude.{◌≡◌, ℕ, ◌^◌, ◌<◌, ℤ, pos, neg_ℤ, ◌+ℤ◌, ◌≤ℤ◌, List, map, flat_map}
use Rattle.clip_regions.specs.declared.region.Region.{Region}
use Rattle.clip_regions.specs.Regions.{numbers_from, IsWithin}
use Rattle.plan_model.specs.Strips.{piece_in}
use Rattle.plan_model.specs.declared.tiles.Piece.{Piece}

-- the pieces of a region in a row of blocks, from block column bx on, n of them
unfoldable pub row_from : Region → ℤ → ℕ → ℤ → List Piece
row_from r bx n by = map (λ bx. piece_in r bx by) (numbers_from bx n)

-- those of some whole rows of blocks, each of n pieces from block column bx on: the rows from by on, so many
unfoldable pub rows_from : Region → ℤ → ℕ → ℤ → ℕ → List Piece
rows_from r bx n by rows = flat_map (row_from r bx n) (numbers_from by rows)

-- the blocks from a on, n of them, lie near the mosaic's corner
pub record AreNear (a : ℤ) (n : ℕ) : Type 0 where
  pub low : neg_ℤ (pos (2 ^ 24)) ≤ℤ a
  pub high : (a +ℤ pos n) ≤ℤ pos (2 ^ 24)

-- a walk over a region: the first block column and how many there are, the next block, how many pieces its row has
-- left, and how many rows come after it
pub record IsWalk (r : Region) (first : ℤ) (columns : ℕ) (bx by : ℤ) (row_left rows_left : ℕ) : Type 0 where
  pub region : IsWithin (2 ^ 24) r
  pub columns_near : AreNear first columns
  pub row_near : AreNear bx row_left
  pub rows_near : AreNear by rows_left
  pub some : 0 < columns
  -- where the row has nothing left, no row comes after it
  pub ended : row_left ≡ 0 → rows_left ≡ 0
