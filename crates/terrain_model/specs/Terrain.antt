-- A terrain, its heights and the heights of its levels.
use Rattle.std.specs.Prelude.{◌≡◌, ℕ, ◌+◌, ◌-◌, ◌*◌, ◌/◌, ◌^◌, ◌≤◌, ◌&&◌, List, length, ℤ, pos, negsuc, ◌*ℤ◌, FitsSigned, All, nat_lt, if◌then◌else◌, slice_index_or}
use Rattle.std.specs.Int.{w16}

-- a terrain: its width and height in samples, and its heights in metres, row by row from the north and each row from
-- the west
pub record Terrain : Type 0 where
  pub width : ℕ
  pub height : ℕ
  pub table : List ℤ

-- a terrain that the program works on: at least one sample and at most 2^26, each a height of 16 bits
pub record IsTerrain (terrain : Terrain) : Type 0 where
  pub some_columns : 1 ≤ terrain.width
  pub some_rows : 1 ≤ terrain.height
  pub few_samples : terrain.width * terrain.height ≤ 2 ^ 26
  pub whole_table : length terrain.table ≡ terrain.width * terrain.height
  pub short_heights : All (FitsSigned w16) terrain.table

-- the height at column x from the west and row y from the north, and 0 outside the terrain
unfoldable pub height_at : Terrain → ℤ → ℤ → ℤ
height_at terrain (pos x) (pos y) =
    if nat_lt x terrain.width && nat_lt y terrain.height
    then slice_index_or terrain.table (y * terrain.width + x) (pos 0)
    else pos 0
height_at terrain (pos x) (negsuc y) = pos 0
height_at terrain (negsuc x) y = pos 0

-- the height of cell (i, j) of a level, whose spacing is 2^level samples
unfoldable pub level_height : Terrain → ℕ → ℤ → ℤ → ℤ
level_height terrain level i j = height_at terrain (i *ℤ pos (2 ^ level)) (j *ℤ pos (2 ^ level))

-- how many columns of a level lie in the terrain
unfoldable pub level_columns : Terrain → ℕ → ℕ
level_columns terrain level = (terrain.width - 1) / 2 ^ level + 1

-- how many rows of a level lie in the terrain
unfoldable pub level_rows : Terrain → ℕ → ℕ
level_rows terrain level = (terrain.height - 1) / 2 ^ level + 1
