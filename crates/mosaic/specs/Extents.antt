-- The rectangle of degrees round a set of tiles, tile by tile.
use Rattle.std.specs.Prelude.{◌≤◌, ◌≤ℤ◌}
use Rattle.std.specs.Int.{int_min, int_max}
use Rattle.terrain_model.specs.Mosaic.{Bounds}
use Rattle.hgt_tiles.specs.TileView.{TileView}

-- a rectangle of degrees and the side of a tile
pub record IsExtent (bounds : Bounds) : Type 0 where
  pub columns : bounds.west ≤ℤ bounds.east
  pub rows : bounds.south ≤ℤ bounds.north
  pub low : 3 ≤ bounds.side
  pub high : bounds.side ≤ 3601

-- the rectangle of one tile
unfoldable pub extent_of_one : TileView → Bounds
extent_of_one tile = record {
  west = tile.corner.lon;
  east = tile.corner.lon;
  south = tile.corner.lat;
  north = tile.corner.lat;
  side = tile.terrain.width;
}

-- a rectangle widened so that it holds another tile
unfoldable pub widened : Bounds → TileView → Bounds
widened bounds tile = record {
  west = int_min bounds.west tile.corner.lon;
  east = int_max bounds.east tile.corner.lon;
  south = int_min bounds.south tile.corner.lat;
  north = int_max bounds.north tile.corner.lat;
  side = bounds.side;
}
