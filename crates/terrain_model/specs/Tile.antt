-- The bytes of an HGT tile, and the terrain of one tile.
use Rattle.std.specs.Prelude.{ℕ, ◌+◌, ◌*◌, ◌^◌, ◌==◌, List, map, flat_map, ℤ, pos, ◌-ℤ◌, Option, nat_lt, if◌then◌else◌, slice_index, find, count_by}
use Rattle.std.specs.List.{range_with_len}
use Rattle.terrain_model.specs.Terrain.{Terrain}
use Rattle.terrain_model.specs.Voids.{is_void, without_voids}

-- the signed number of 16 bits that two bytes make, the high byte first
unfoldable pub signed_pair : ℕ → ℕ → ℤ
signed_pair high low =
    if nat_lt high 128 then pos (256 * high + low) else pos (256 * high + low) -ℤ pos (2 ^ 16)

-- sample number n of a tile's bytes, counted row by row from the north and each row from the west
unfoldable pub raw_sample : List ℕ → ℕ → ℤ
raw_sample bytes n = signed_pair (slice_index bytes (2 * n)) (slice_index bytes (2 * n + 1))

-- the sides that a tile may have, 3 to 3601 samples
unfoldable pub tile_sides : List ℕ
tile_sides = range_with_len 3 3599

-- the side of a tile of this many bytes, two bytes a sample, if there is one
unfoldable pub side_of_length : ℕ → Option ℕ
side_of_length length = find (λ side. 2 * (side * side) == length) tile_sides

-- a number of samples of a tile's bytes, one after another from a first one on
unfoldable pub samples_from : List ℕ → ℕ → ℕ → List ℤ
samples_from bytes first count = map (raw_sample bytes) (range_with_len first count)

-- row v of a tile's samples, counted from the north, from west to east
abbrev pub tile_row : List ℕ → ℕ → ℕ → List ℤ
tile_row bytes side v = samples_from bytes (v * side) side

-- the terrain of one tile: its rows with their voids filled
unfoldable pub tile_terrain : List ℕ → ℕ → Terrain
tile_terrain bytes side = record {
  width = side;
  height = side;
  table = flat_map (λ v. without_voids (tile_row bytes side v)) (range_with_len 0 side);
}

-- how many of a tile's samples are voids
unfoldable pub void_count : List ℕ → ℕ → ℕ
void_count bytes side = count_by is_void (flat_map (tile_row bytes side) (range_with_len 0 side))
