-- Which torus tiles a region meets, as statements: each is the contract of a law of this crate.
use Rattle.std.specs.Prelude.{◌≡◌, ℕ, ◌≤◌, ◌↔◌, Bool, false, ◌&&◌, ◌==◌, IsTrue, ℤ, List, map, filter, flat_map}
use Rattle.std.specs.List.{range_with_len, list_any}
use Rattle.clip_regions.specs.declared.region.Region.{Region}
use Rattle.clip_regions.specs.FloorDivision.{floor_rem}
use Rattle.clip_regions.specs.Regions.{contains, is_empty}
use Rattle.plan_model.specs.Blocks.{tiles_per_side, tile_of_cell}
use Rattle.plan_model.specs.Strips.{block_columns, block_rows}
use Rattle.plan_model.specs.Tiles.{meets_tile, tiles_met}
use Rattle.plan_model.specs.declared.tiles.TileId.{TileId}

-- some cell of the region has the tile
abbrev pub HasCellOfTile : ℕ → Region → TileId → Type 0
HasCellOfTile k r t = (i : ℤ) × (j : ℤ) × IsTrue (contains r i j) × (tile_of_cell k i j ≡ t)

-- a region meets a tile exactly where some cell of it has that tile
abbrev pub TilesMetByCells : Type 0
TilesMetByCells = (k : ℕ) (r : Region) (t : TileId) → 3 ≤ k → IsTrue (meets_tile k r t) ↔ HasCellOfTile k r t

-- the region meets a block whose tile is in this column of tiles; and in this row
unfoldable pub meets_column : ℕ → Region → ℕ → Bool
meets_column k r tx = list_any (λ bx. floor_rem bx (tiles_per_side k) == tx) (block_columns r)

unfoldable pub meets_row : ℕ → Region → ℕ → Bool
meets_row k r ty = list_any (λ by. floor_rem by (tiles_per_side k) == ty) (block_rows r)

-- a region of some cells meets a tile where it meets the tile's column and its row
abbrev pub TilesMetBySides : Type 0
TilesMetBySides =
    (k : ℕ) (r : Region) (t : TileId) → is_empty r ≡ false →
    meets_tile k r t ≡ (meets_column k r t.tx && meets_row k r t.ty)

-- the columns and the rows of tiles that a region meets, ascending
abbrev pub columns_met : ℕ → Region → List ℕ
columns_met k r = filter (meets_column k r) (range_with_len 0 (tiles_per_side k))

abbrev pub rows_met : ℕ → Region → List ℕ
rows_met k r = filter (meets_row k r) (range_with_len 0 (tiles_per_side k))

-- the tiles that a region of some cells meets are those of the columns and of the rows that it meets
abbrev pub TilesMetAreProducts : Type 0
TilesMetAreProducts =
    (k : ℕ) (r : Region) → is_empty r ≡ false →
    tiles_met k r ≡ flat_map (λ ty. map (λ tx. record { tx = tx; ty = ty }) (columns_met k r)) (rows_met k r)
