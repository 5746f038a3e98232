-- The cells of a block that lie in the terrain, counted from the terrain's corner.
use Rattle.std.specs.Prelude.{◌≡◌, ◌+◌, ◌-◌, ◌/◌, ◌%◌, ◌^◌, ◌≤◌, pos, ◌-ℤ◌}
use Rattle.clip_regions.specs.declared.region.Region.{Region}
use Rattle.four_point.specs.declared.patch.Patch.{Patch}
use Rattle.store_writer.specs.declared.cells.Cells.{Cells}

-- the cells as a region
unfoldable pub region_of : Cells → Region
region_of cells = record {
  x0 = pos cells.x0;
  y0 = pos cells.y0;
  x1 = pos (cells.x0 + cells.columns - 1);
  y1 = pos (cells.y0 + cells.rows - 1);
}

-- one to eight columns and rows, from a block's first on
pub record AreCells (cells : Cells) : Type 0 where
  pub block_column : cells.x0 % 8 ≡ 0
  pub block_row : cells.y0 % 8 ≡ 0
  pub near_column : cells.x0 ≤ 2 ^ 26
  pub near_row : cells.y0 ≤ 2 ^ 26
  pub some_columns : 1 ≤ cells.columns
  pub some_rows : 1 ≤ cells.rows
  pub few_columns : cells.columns ≤ 8
  pub few_rows : cells.rows ≤ 8

-- the patch is that of the block of the cells
pub record IsPatchOf (cells : Cells) (patch : Patch) : Type 0 where
  pub column : patch.i0 ≡ pos (cells.x0 / 2) -ℤ pos 1
  pub row : patch.j0 ≡ pos (cells.y0 / 2) -ℤ pos 1
