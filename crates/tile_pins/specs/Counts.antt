-- Counts of pins, by tile.
use Rattle.std.specs.Prelude.{◌≡◌, ℕ, ◌+◌, ◌-◌, ◌*◌, ◌/◌, ◌%◌, ◌<◌, Bool, true, false, List, length, slice_index, count_by, Option}
use Rattle.clip_regions.specs.declared.region.Region.{Region}
use Rattle.plan_model.specs.Limits.{IsSize}
use Rattle.plan_model.specs.Blocks.{tiles_per_side}
use Rattle.plan_model.specs.Tiles.{meets_tile}
use Rattle.plan_model.specs.declared.tiles.TileId.{TileId}
use Rattle.tile_pins.specs.declared.pin.Pin.{Pin}
use Rattle.tile_pins.specs.Pinned.{is_on}

-- the tile of a number among those of a torus, by row and then by column
unfoldable pub numbered : ℕ → ℕ → TileId
numbered side n = record { tx = n % side; ty = n / side }

-- a count of pins after one more is there, or one less, at a tile that it is on
abbrev pub changed_by : Bool → Bool → ℕ → ℕ
changed_by false more count = count
changed_by true true count = count + 1
changed_by true false count = count - 1

-- the counts of a torus after a region was pinned, or let go
pub record AreChanged (k : ℕ) (region : Region) (more : Bool) (old new : List ℕ) : Type 0 where
  pub many : length new ≡ length old
  pub each : (n : ℕ) → n < length old →
      slice_index new n ≡ changed_by (meets_tile k region (numbered (tiles_per_side k) n)) more (slice_index old n)

-- the counts of a torus are those of the pins on each tile
pub record AreCounted (k : ℕ) (pins : List (Option Pin)) (counts : List ℕ) : Type 0 where
  pub size : IsSize k
  pub passes : length pins ≡ 16
  pub many : length counts ≡ tiles_per_side k * tiles_per_side k
  pub each : (n : ℕ) → n < length counts →
      slice_index counts n ≡ count_by (is_on k (numbered (tiles_per_side k) n)) pins
