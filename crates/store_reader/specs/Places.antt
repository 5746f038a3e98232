-- The place of a block, and the cells of a level that is being read.
use Rattle.std.specs.Prelude.{◌≡◌, ℕ, ◌^◌, ◌<◌, ℤ, pos, List}
use Rattle.terrain_model.specs.Terrain.{Terrain, height_at}
use Rattle.block_heights.specs.Decoded.{IsPartOf}
use Rattle.store_model.specs.Sizes.{cells_on, block_column, block_row}
use Rattle.store_model.specs.Format.{Head}
use Rattle.store_model.specs.Store.{region_of}
use Rattle.store_reader.specs.declared.sizes.Place.{Place}

-- the place is that of block k of a level
pub record IsPlaceOf (head : Head) (level k : ℕ) (place : Place) : Type 0 where
  pub at_level : place.level ≡ level
  pub column : place.bx ≡ block_column head.width level k
  pub row : place.by ≡ block_row head.width level k
  pub cells : place.cells ≡ region_of head level k

-- a place whose cells are of its block
pub record IsSoundPlace (place : Place) : Type 0 where
  pub part : IsPartOf (pos place.bx) (pos place.by) place.cells
  pub west : place.bx < 2 ^ 24
  pub north : place.by < 2 ^ 24

-- the heights of a level in a table of its cells, row by row
abbrev pub table_of : Head → ℕ → List ℤ → Terrain
table_of head level table =
    record { width = cells_on head.width level; height = cells_on head.height level; table = table }

abbrev pub cell_heights : Head → ℕ → List ℤ → ℤ → ℤ → ℤ
cell_heights head level table = height_at (table_of head level table)
