-- The terrain of a set of tiles: where each tile lies, and which of those that cover a sample has its height.
use Rattle.std.specs.Prelude.{ℕ, ◌+◌, ◌-◌, ◌*◌, Bool, not, ◌&&◌, ◌||◌, List, [], ◌∷◌, map, flat_map, fold, find, ℤ, pos, int_lt, nat_le, nat_lt, Option, Some, None}
use Rattle.std.specs.Int.{int_min, int_max, int_gap}
use Rattle.std.specs.List.{range_with_len, list_all}
use Rattle.terrain_model.specs.Terrain.{Terrain, height_at}
use Rattle.terrain_model.specs.declared.Corner.{Corner}

-- a tile: its south-west corner and its terrain
pub record PlacedTile : Type 0 where
  pub corner : Corner
  pub terrain : Terrain

-- the least and the greatest of some numbers, and 0 where there are none
abbrev pub least_of : List ℤ → ℤ
least_of [] = pos 0
least_of (x ∷ xs) = fold int_min x xs

abbrev pub greatest_of : List ℤ → ℤ
greatest_of [] = pos 0
greatest_of (x ∷ xs) = fold int_max x xs

-- the side of the first of some tiles
abbrev pub first_side : List PlacedTile → ℕ
first_side [] = 0
first_side (tile ∷ rest) = tile.terrain.width

-- the rectangle of degrees that some tiles lie in, and the side of each
pub record Bounds : Type 0 where
  pub west : ℤ
  pub east : ℤ
  pub south : ℤ
  pub north : ℤ
  pub side : ℕ

-- the least rectangle round some tiles, by their corners
unfoldable pub bounds_of : List PlacedTile → Bounds
bounds_of tiles = record {
  west = least_of (map (λ tile. tile.corner.lon) tiles);
  east = greatest_of (map (λ tile. tile.corner.lon) tiles);
  south = least_of (map (λ tile. tile.corner.lat) tiles);
  north = greatest_of (map (λ tile. tile.corner.lat) tiles);
  side = first_side tiles;
}

-- how many samples a number of degrees has on an axis: neighbouring tiles share their edge
unfoldable pub samples_across : ℕ → ℤ → ℤ → ℕ
samples_across side low high = (int_gap low high + 1) * (side - 1) + 1

-- the mosaic's width and height in samples
unfoldable pub mosaic_width : Bounds → ℕ
mosaic_width bounds = samples_across bounds.side bounds.west bounds.east

unfoldable pub mosaic_height : Bounds → ℕ
mosaic_height bounds = samples_across bounds.side bounds.south bounds.north

-- the first column and the first row of the mosaic that a tile covers
unfoldable pub left_of : Bounds → PlacedTile → ℕ
left_of bounds tile = int_gap bounds.west tile.corner.lon * (bounds.side - 1)

unfoldable pub top_of : Bounds → PlacedTile → ℕ
top_of bounds tile = int_gap tile.corner.lat bounds.north * (bounds.side - 1)

-- the number is one of `count` numbers from `first` on
unfoldable pub is_among : ℕ → ℕ → ℕ → Bool
is_among first count n = nat_le first n && nat_lt n (first + count)

-- a tile covers the sample at column x and row y of the mosaic
unfoldable pub covers : Bounds → ℕ → ℕ → PlacedTile → Bool
covers bounds x y tile =
    is_among (left_of bounds tile) bounds.side x && is_among (top_of bounds tile) bounds.side y

-- one tile lies north of another, or as far north and west of it
unfoldable pub comes_before : PlacedTile → PlacedTile → Bool
comes_before tile other =
    int_lt other.corner.lat tile.corner.lat
    || (not (int_lt tile.corner.lat other.corner.lat) && int_lt tile.corner.lon other.corner.lon)

-- the tile covers the sample, and no tile that covers it comes before
unfoldable pub owns : Bounds → List PlacedTile → ℕ → ℕ → PlacedTile → Bool
owns bounds tiles x y tile =
    covers bounds x y tile && list_all (λ other. not (covers bounds x y other && comes_before other tile)) tiles

-- the owner of a sample: the northernmost, and of these the westernmost tile that covers it, if any does
unfoldable pub owner_of : Bounds → List PlacedTile → ℕ → ℕ → Option PlacedTile
owner_of bounds tiles x y = find (owns bounds tiles x y) tiles

-- the height that a tile has at column x and row y of the mosaic
unfoldable pub height_in : Bounds → ℕ → ℕ → PlacedTile → ℤ
height_in bounds x y tile = height_at tile.terrain (pos (x - left_of bounds tile)) (pos (y - top_of bounds tile))

-- the height of a sample by its owner, and 0 without one
abbrev pub owned_height : Bounds → ℕ → ℕ → Option PlacedTile → ℤ
owned_height bounds x y None = pos 0
owned_height bounds x y (Some tile) = height_in bounds x y tile

-- the height of the sample at column x and row y of a mosaic
unfoldable pub mosaic_sample : Bounds → List PlacedTile → ℕ → ℕ → ℤ
mosaic_sample bounds tiles x y = owned_height bounds x y (owner_of bounds tiles x y)

-- the terrain that some tiles make in a rectangle
unfoldable pub mosaic_terrain : Bounds → List PlacedTile → Terrain
mosaic_terrain bounds tiles = record {
  width = mosaic_width bounds;
  height = mosaic_height bounds;
  table =
      flat_map (λ y. map (λ x. mosaic_sample bounds tiles x y) (range_with_len 0 (mosaic_width bounds)))
      (range_with_len 0 (mosaic_height bounds));
}

-- the terrain of a set of tiles, each height decided by itself
unfoldable pub tiles_terrain : List PlacedTile → Terrain
tiles_terrain tiles = mosaic_terrain (bounds_of tiles) tiles
