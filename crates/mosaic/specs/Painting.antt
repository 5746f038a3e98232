-- Tiles painted one over another.
use Rattle.std.specs.Prelude.{◌≡◌, ℕ, ◌+◌, ◌<◌, ◌++◌, length, take, drop, slice_index_or, List, [], ◌∷◌, map, fold, ℤ, pos, ◌≤ℤ◌, false, All, if◌then◌else◌}
use Rattle.std.specs.List.{range_with_len}
use Rattle.terrain_model.specs.Mosaic.{Bounds, covers, comes_before, height_in, mosaic_width}
use Rattle.hgt_tiles.specs.TileView.{TileView, placed}

-- a tile lies in a rectangle, and its side is the rectangle's
pub record IsPlacedIn (bounds : Bounds) (tile : TileView) : Type 0 where
  pub west : bounds.west ≤ℤ tile.corner.lon
  pub east : tile.corner.lon ≤ℤ bounds.east
  pub south : bounds.south ≤ℤ tile.corner.lat
  pub north : tile.corner.lat ≤ℤ bounds.north
  pub columns : tile.terrain.width ≡ bounds.side
  pub rows : tile.terrain.height ≡ bounds.side

-- a row with a part written over it, from a place on
unfoldable pub with_part : List ℤ → ℕ → List ℤ → List ℤ
with_part row left part = take left row ++ (part ++ drop (left + length part) row)

-- what stands at a sample once a tile is painted over it
unfoldable pub painted_over : Bounds → ℕ → ℕ → ℤ → TileView → ℤ
painted_over bounds x y height tile =
    if covers bounds x y (placed tile) then height_in bounds x y (placed tile) else height

-- one row is another of the mosaic's rows with a tile painted over it
abbrev pub IsPainted : Bounds → ℕ → TileView → List ℤ → List ℤ → Type 0
IsPainted bounds y tile before after =
    (x : ℕ) → x < length before
    → slice_index_or after x (pos 0) ≡ painted_over bounds x y (slice_index_or before x (pos 0)) tile

-- what stands at a sample once some tiles are painted, one over another, over zeros
unfoldable pub painted : Bounds → List TileView → ℕ → ℕ → ℤ
painted bounds tiles x y = fold (painted_over bounds x y) (pos 0) tiles

-- a row of samples after that
unfoldable pub painted_row : Bounds → List TileView → ℕ → List ℤ
painted_row bounds tiles y = map (λ x. painted bounds tiles x y) (range_with_len 0 (mosaic_width bounds))

-- of a list of tiles, none comes before a later one: they stand from the south, and of one latitude from the east
abbrev pub IsInOrder : List TileView → Type 0
IsInOrder [] = Unit {0}
IsInOrder (tile ∷ rest) = All (λ later. comes_before (placed tile) (placed later) ≡ false) rest × IsInOrder rest
