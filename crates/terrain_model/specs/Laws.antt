-- What holds of terrains and tiles, whatever their heights.
use Rattle.std.specs.Prelude.{◌≡◌, ℕ, ◌+◌, ◌*◌, ◌<◌, ◌≤◌, List, length, false, slice_index_or, ℤ, pos, ◌*ℤ◌, Some, All}
use Rattle.terrain_model.specs.Terrain.{Terrain, IsTerrain, height_at, level_height}
use Rattle.terrain_model.specs.Voids.{is_void, known_at}
use Rattle.terrain_model.specs.Tile.{side_of_length, tile_row, tile_terrain}

-- bytes of a tile make a terrain
abbrev pub TileIsTerrain : Type 0
TileIsTerrain =
    (bytes : List ℕ) (side : ℕ) → All (λ b. b < 256) bytes → 1 ≤ side → side ≤ 3601
    → IsTerrain (tile_terrain bytes side)

-- the height at a place of a tile is the one that its row has there
abbrev pub TileHeight : Type 0
TileHeight =
    (bytes : List ℕ) (side x y : ℕ) → x < side → y < side
    → height_at (tile_terrain bytes side) (pos x) (pos y) ≡ known_at (tile_row bytes side y) x

-- a height that was filled in is no void
abbrev pub NoVoidStays : Type 0
NoVoidStays = (row : List ℤ) (n : ℕ) → is_void (known_at row n) ≡ false

-- a sample that is no void stays as it is
abbrev pub KnownStays : Type 0
KnownStays =
    (row : List ℤ) (n : ℕ) → n < length row → is_void (slice_index_or row n (pos 0)) ≡ false
    → known_at row n ≡ slice_index_or row n (pos 0)

-- level 0 is the terrain itself
abbrev pub FinestLevel : Type 0
FinestLevel = (terrain : Terrain) (i j : ℤ) → level_height terrain 0 i j ≡ height_at terrain i j

-- a coarser level takes the samples of the finer one at even places
abbrev pub CoarserLevel : Type 0
CoarserLevel =
    (terrain : Terrain) (level : ℕ) (a b : ℤ)
    → level_height terrain level (pos 2 *ℤ a) (pos 2 *ℤ b) ≡ level_height terrain (level + 1) a b

-- a side that a length gives is from 3 to 3601 and fills the length
abbrev pub SideFits : Type 0
SideFits =
    (length side : ℕ) → side_of_length length ≡ Some side
    → (3 ≤ side) × (side ≤ 3601) × (2 * (side * side) ≡ length)

-- a length that such a side fills gives that side
abbrev pub SideFound : Type 0
SideFound = (side : ℕ) → 3 ≤ side → side ≤ 3601 → side_of_length (2 * (side * side)) ≡ Some side
