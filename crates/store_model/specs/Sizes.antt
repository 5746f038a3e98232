-- How many cells and blocks the levels of a terrain have, and the cells of a block.
use Rattle.std.specs.Prelude.{ℕ, ◌+◌, ◌-◌, ◌*◌, ◌/◌, ◌%◌, ◌^◌, min, pos}
use Rattle.clip_regions.specs.declared.region.Region.{Region}

-- how many cells of a level lie in a side of so many samples
unfoldable pub cells_on : ℕ → ℕ → ℕ
cells_on side level = (side - 1) / 2 ^ level + 1

-- how many blocks of eight cells a side of so many cells meets
unfoldable pub blocks_on : ℕ → ℕ
blocks_on cells = (cells - 1) / 8 + 1

-- the cells of a level in a terrain of this width and height
unfoldable pub level_region : ℕ → ℕ → ℕ → Region
level_region width height level = record {
  x0 = pos 0;
  y0 = pos 0;
  x1 = pos (cells_on width level - 1);
  y1 = pos (cells_on height level - 1);
}

-- how many blocks of a level have cells in the terrain
unfoldable pub block_count : ℕ → ℕ → ℕ → ℕ
block_count width height level = blocks_on (cells_on width level) * blocks_on (cells_on height level)

-- the blocks of a level are counted row by row from the north, and each row from the west: the column and the row of
-- block k
unfoldable pub block_column : ℕ → ℕ → ℕ → ℕ
block_column width level k = k % blocks_on (cells_on width level)

unfoldable pub block_row : ℕ → ℕ → ℕ → ℕ
block_row width level k = k / blocks_on (cells_on width level)

-- the cells in the terrain of the block in column bx and row by of a level
unfoldable pub cells_in_block : ℕ → ℕ → ℕ → ℕ → ℕ → Region
cells_in_block width height level bx by = record {
  x0 = pos (8 * bx);
  y0 = pos (8 * by);
  x1 = pos (min (8 * bx + 7) (cells_on width level - 1));
  y1 = pos (min (8 * by + 7) (cells_on height level - 1));
}

-- the cells in the terrain of block k of a level
unfoldable pub block_region : ℕ → ℕ → ℕ → ℕ → Region
block_region width height level k =
    cells_in_block width height level (block_column width level k) (block_row width level k)
