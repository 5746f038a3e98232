-- The tiles of all levels, and what was handed out.
use Rattle.std.specs.Prelude.{◌≡◌, ℕ, ◌+◌, ◌^◌, ◌<◌, ℤ, pos, neg_ℤ, ◌+ℤ◌, ◌≤ℤ◌, List, [], length, slice_index_or, Option, Some, None, IsTrue, if◌then◌else◌}
use Rattle.plan_model.specs.declared.tiles.TileId.{TileId}
use Rattle.torus_grid.specs.Grids.{Grid, tile_at, is_home, height_at, SameBut}
use Rattle.clip_regions.specs.declared.region.Region.{Region}
use Rattle.clip_regions.specs.Regions.{contains}
use Rattle.plan_model.specs.Blocks.{tile_of_cell}
use Rattle.plan_holds.specs.Apart.{HasCell}
use Rattle.book_cells.specs.Cells.{Cells}

-- the torus of each level, the finest first, and for each pass the 64 heights of the last tile that it was handed
pub record Tiles : Type 0 where
  pub grids : List Grid
  pub handed : List (Option (List ℤ))

abbrev pub no_grid : Grid
no_grid = record { k = 0; tiles = [] }

abbrev pub grid_on : List Grid → ℕ → Grid
grid_on grids level = slice_index_or grids level no_grid

-- the 64 heights of a tile, where one was handed out
abbrev pub heights_in : Option (List ℤ) → List ℤ
heights_in None = []
heights_in (Some heights) = heights

abbrev pub handed_to : List (Option (List ℤ)) → ℕ → List ℤ
handed_to handed p = heights_in (slice_index_or handed p None)

-- the heights that a book keeps
abbrev pub cells_of : Tiles → Cells
cells_of tiles = record {
  home = λ level t. tile_at (grid_on tiles.grids level) t;
  handed = λ p. handed_to tiles.handed p;
}

-- two of as many levels and passes, whose toruses have one K
pub record SameSizes (old new : Tiles) : Type 0 where
  pub levels : length new.grids ≡ length old.grids
  pub passes : length new.handed ≡ length old.handed
  pub size : (level : ℕ) → (grid_on new.grids level).k ≡ (grid_on old.grids level).k

-- of two lists of toruses, one tile of one level changed
pub record SameGridsBut (level : ℕ) (t : TileId) (old new : List Grid) : Type 0 where
  pub many : length new ≡ length old
  pub same : SameBut t (grid_on old level) (grid_on new level)
  pub others : (l : ℕ) → (l ≡ level → ⊥) → grid_on new l ≡ grid_on old l

-- the tile of a level was taken out, with these heights
pub record IsTakenFrom (level : ℕ) (t : TileId) (heights : List ℤ) (old new : List Grid) : Type 0 where
  pub had : tile_at (grid_on old level) t ≡ Some heights
  pub out : tile_at (grid_on new level) t ≡ None
  pub rest : SameGridsBut level t old new

-- the tile of a level was put back, with these heights
pub record IsPutIn (level : ℕ) (t : TileId) (heights : List ℤ) (old new : List Grid) : Type 0 where
  pub home : tile_at (grid_on new level) t ≡ Some heights
  pub rest : SameGridsBut level t old new

-- the tiles of a region's cells are at home
abbrev pub AreHome : Grid → Region → Type 0
AreHome grid region = (i j : ℤ) → HasCell region i j → IsTrue (is_home grid (tile_of_cell grid.k i j))

-- the height of a cell of the region, and 0 elsewhere
unfoldable pub seen : Grid → Region → ℤ → ℤ → ℤ
seen grid region i j = if contains region i j then height_at grid i j else pos 0

-- a column or a row so near to zero that seven from it on are numbers of 32 bits
pub record IsCorner (z : ℤ) : Type 0 where
  pub low : neg_ℤ (pos (2 ^ 30 + 16)) ≤ℤ z
  pub high : z ≤ℤ pos (2 ^ 30 + 16)

-- the seven cells of a row from column i0 on lie in the region
abbrev pub HoldsRow : Region → ℤ → ℤ → Type 0
HoldsRow region i0 j = (a : ℕ) → a < 7 → IsTrue (contains region (i0 +ℤ pos a) j)

-- and so do seven by seven cells from column i0 and row j0 on
abbrev pub HoldsSquare : Region → ℤ → ℤ → Type 0
HoldsSquare region i0 j0 = (a b : ℕ) → a < 7 → b < 7 → IsTrue (contains region (i0 +ℤ pos a) (j0 +ℤ pos b))
