-- An HGT tile as contracts see it.
use Rattle.std.specs.Prelude.{◌≡◌, ℕ, ◌≤◌, List, length, Option, option_map}
use Rattle.terrain_model.specs.Terrain.{Terrain, IsTerrain}
use Rattle.terrain_model.specs.Tile.{side_of_length, tile_terrain, void_count}
use Rattle.terrain_model.specs.Mosaic.{PlacedTile}
use Rattle.terrain_model.specs.declared.Corner.{Corner}

-- a tile: its south-west corner, its terrain with all voids filled, and how many of its samples were voids
pub record TileView : Type 0 where
  pub corner : Corner
  pub terrain : Terrain
  pub voids : ℕ

-- the most voids that a tile may have: all samples of the greatest square
abbrev pub most_voids : ℕ
most_voids = 12967201

-- the tile that bytes of this side make at a corner
unfoldable pub tile_at : Corner → List ℕ → ℕ → TileView
tile_at place bytes side =
    record { corner = place; terrain = tile_terrain bytes side; voids = void_count bytes side }

-- the tile that bytes make at a corner, if their length is that of a tile
unfoldable pub tile_of_bytes : Corner → List ℕ → Option TileView
tile_of_bytes place bytes = option_map (tile_at place bytes) (side_of_length (length bytes))

-- the tile as a part of a mosaic
unfoldable pub placed : TileView → PlacedTile
placed tile = record { corner = tile.corner; terrain = tile.terrain }

-- the terrain of a tile: a square of 3 to 3601 samples a side
pub record IsTile (terrain : Terrain) : Type 0 where
  pub square : terrain.height ≡ terrain.width
  pub low : 3 ≤ terrain.width
  pub high : terrain.width ≤ 3601
  pub sound : IsTerrain terrain

-- a tile that was read: its terrain is a tile's, and its voids are samples of it
pub record IsRead (tile : TileView) : Type 0 where
  pub square : IsTile tile.terrain
  pub few_voids : tile.voids ≤ most_voids
