-- The rectangle round a set of tiles, tile by tile.
use Rattle.std.proofs.Common.{◌≡◌, ℕ, ℤ, ◌≤ℤ◌, List, [], ◌∷◌, map, fold, refl, arith}
use Rattle.std.specs.Int.{int_min, int_max}
use Rattle.std.proofs.lemmas.Int.{ints}
use Rattle.terrain_model.specs.Mosaic.{Bounds, bounds_of}
use Rattle.hgt_tiles.specs.TileView.{TileView, placed}
use Rattle.mosaic.specs.Extents.{IsExtent, extent_of_one, widened}

-- a rectangle by its numbers
abbrev pub bounds_by : ℤ → ℤ → ℤ → ℤ → ℕ → Bounds
bounds_by a b c d s = record { west = a; east = b; south = c; north = d; side = s }

-- rectangles with the same numbers are one
pub bounds_eq : (a b c d : ℤ) (s : ℕ) (a' b' c' d' : ℤ) (s' : ℕ) → a ≡ a' → b ≡ b' → c ≡ c' → d ≡ d' → s ≡ s' → bounds_by a b c d s ≡ bounds_by a' b' c' d' s'
bounds_eq a b c d s a' b' c' d' s' e f g h i = λ t. record { west = e t; east = f t; south = g t; north = h t; side = i t }

pub both : (f : ℤ → ℤ → ℤ) (a b a' b' : ℤ) → a ≡ a' → b ≡ b' → f a b ≡ f a' b'
both f a b a' b' e g = λ t. f (e t) (g t)

west_of : (bounds : Bounds) (tiles : List TileView) → (fold widened bounds tiles).west ≡ fold int_min bounds.west (map (λ tile. tile.corner.lon) (map placed tiles))
unfolding widened placed
west_of bounds [] = refl
west_of bounds (tile ∷ rest) = west_of (widened bounds tile) rest

east_of : (bounds : Bounds) (tiles : List TileView) → (fold widened bounds tiles).east ≡ fold int_max bounds.east (map (λ tile. tile.corner.lon) (map placed tiles))
unfolding widened placed
east_of bounds [] = refl
east_of bounds (tile ∷ rest) = east_of (widened bounds tile) rest

south_of : (bounds : Bounds) (tiles : List TileView) → (fold widened bounds tiles).south ≡ fold int_min bounds.south (map (λ tile. tile.corner.lat) (map placed tiles))
unfolding widened placed
south_of bounds [] = refl
south_of bounds (tile ∷ rest) = south_of (widened bounds tile) rest

north_of : (bounds : Bounds) (tiles : List TileView) → (fold widened bounds tiles).north ≡ fold int_max bounds.north (map (λ tile. tile.corner.lat) (map placed tiles))
unfolding widened placed
north_of bounds [] = refl
north_of bounds (tile ∷ rest) = north_of (widened bounds tile) rest

side_of : (bounds : Bounds) (tiles : List TileView) → (fold widened bounds tiles).side ≡ bounds.side
unfolding widened
side_of bounds [] = refl
side_of bounds (tile ∷ rest) = side_of (widened bounds tile) rest

pub around_is : (first : TileView) (rest : List TileView) → fold widened (extent_of_one first) rest ≡ bounds_of (map placed (first ∷ rest))
unfolding bounds_of extent_of_one placed
around_is first rest =
    let start = extent_of_one first in
    let w = west_of start rest in
    let e = east_of start rest in
    let s = south_of start rest in
    let n = north_of start rest in
    let d = side_of start rest in
    λ t. record { west = w t; east = e t; south = s t; north = n t; side = d t }

-- a rectangle that is widened stays one
pub widened_extent : (bounds : Bounds) (tile : TileView) → IsExtent bounds → IsExtent (widened bounds tile)
unfolding widened
widened_extent bounds tile h = record {
  columns = min_max bounds.west bounds.east tile.corner.lon h.columns;
  rows = min_max bounds.south bounds.north tile.corner.lat h.rows;
  low = h.low;
  high = h.high;
}
  where
    min_max : (a b c : ℤ) → a ≤ℤ b → int_min a c ≤ℤ int_max b c
    min_max a b c h = grind (arith, ints)
