-- The heights of one level: those of each torus tile that is at home. A tile that is out has its heights with it.
use Rattle.std.specs.Prelude.{◌≡◌, ℕ, ◌+◌, ◌*◌, Bool, ◌&&◌, nat_lt, ℤ, pos, List, replicate, slice_index_or, Option, Some, None, is_some, if◌then◌else◌}
use Rattle.plan_model.specs.Blocks.{tiles_per_side, tile_of_cell}
use Rattle.plan_model.specs.declared.tiles.TileId.{TileId}
use Rattle.torus_grid.specs.Places.{tile_height}

-- K, and for each tile, by row and then by column, its 64 heights while it is at home
pub record Grid : Type 0 where
  pub k : ℕ
  pub tiles : List (Option (List ℤ))

-- the torus has the tile
unfoldable pub has_tile : ℕ → TileId → Bool
has_tile k t = nat_lt t.tx (tiles_per_side k) && nat_lt t.ty (tiles_per_side k)

-- the number of a tile: by row, then by column
unfoldable pub tile_number : ℕ → TileId → ℕ
tile_number k t = tiles_per_side k * t.ty + t.tx

-- the 64 heights of a tile, where it is at home
unfoldable pub tile_at : Grid → TileId → Option (List ℤ)
tile_at grid t = if has_tile grid.k t then slice_index_or grid.tiles (tile_number grid.k t) None else None

-- the tile is at home
unfoldable pub is_home : Grid → TileId → Bool
is_home grid t = is_some (tile_at grid t)

-- the height of a cell in its tile, where that is at home, and 0 where it is out
abbrev pub height_in : Option (List ℤ) → ℤ → ℤ → ℤ
height_in None i j = pos 0
height_in (Some heights) i j = tile_height heights i j

unfoldable pub height_at : Grid → ℤ → ℤ → ℤ
height_at grid i j = height_in (tile_at grid (tile_of_cell grid.k i j)) i j

-- the torus of K with all tiles at home, and all heights 0
unfoldable pub new_grid : ℕ → Grid
new_grid k = record {
  k = k;
  tiles = replicate (tiles_per_side k * tiles_per_side k) (Some (replicate 64 (pos 0)));
}

-- of two toruses of one K, all tiles but one have the same heights, and are at home or out in both
pub record SameBut (t : TileId) (old new : Grid) : Type 0 where
  pub size : new.k ≡ old.k
  pub others : (u : TileId) → ¬ (u ≡ t) → tile_at new u ≡ tile_at old u
