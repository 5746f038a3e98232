-- Where a cell stands in its torus tile, and among the cells of a region; and what a tile is after some of its cells
-- were written.
use Rattle.std.specs.Prelude.{◌≡◌, ℕ, ◌+◌, ◌*◌, ℤ, pos, List, length, slice_index_or, IsTrue}
use Rattle.std.specs.Int.{int_gap}
use Rattle.clip_regions.specs.declared.region.Region.{Region}
use Rattle.clip_regions.specs.FloorDivision.{floor_rem}
use Rattle.clip_regions.specs.Regions.{contains, columns, holds}
use Rattle.plan_model.specs.Blocks.{block_cells}

-- the place of a cell in its tile, as a column and a row from 0 to 7
unfoldable pub place_in_tile : ℤ → ℤ → ℕ × ℕ
place_in_tile i j = (floor_rem i 8, floor_rem j 8)

-- the height of a cell among the 64 of its tile, which stand row by row
unfoldable pub tile_height : List ℤ → ℤ → ℤ → ℤ
tile_height heights i j = slice_index_or heights (8 * floor_rem j 8 + floor_rem i 8) (pos 0)

-- the place of a cell among the cells of a region, row by row
unfoldable pub place_among : Region → ℤ → ℤ → ℕ
place_among r i j = columns r * int_gap r.y0 j + int_gap r.x0 i

-- the cells lie in one world block
pub record IsInOneBlock (cells : Region) : Type 0 where
  pub bx : ℤ
  pub by : ℤ
  pub held : IsTrue (holds (block_cells bx by) cells)

-- no cell of the region has the place in its tile of cell (i, j)
abbrev pub IsFree : Region → ℤ → ℤ → Type 0
IsFree r i j = (i' j' : ℤ) → IsTrue (contains r i' j') → ¬ (place_in_tile i j ≡ place_in_tile i' j')

-- a tile after the cells of a region were written: these have the heights, row by row, and all others their old ones
pub record IsWritten (old : List ℤ) (cells : Region) (heights new : List ℤ) : Type 0 where
  pub many : length new ≡ 64
  pub written : (i j : ℤ) → IsTrue (contains cells i j) →
      tile_height new i j ≡ slice_index_or heights (place_among cells i j) (pos 0)
  pub others : (i j : ℤ) → IsFree cells i j → tile_height new i j ≡ tile_height old i j
