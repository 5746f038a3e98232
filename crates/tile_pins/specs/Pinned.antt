-- The regions that frames pin on one level, by the pass that draws the frame.
use Rattle.std.specs.Prelude.{ℕ, Bool, false, List, [], ◌∷◌, replicate, flat_map, fold, Option, Some, None, if◌then◌else◌}
use Rattle.plan_model.specs.Tiles.{meets_tile, lesser}
use Rattle.plan_model.specs.declared.tiles.TileId.{TileId}
use Rattle.tile_pins.specs.declared.pin.Pin.{Pin}

-- K, and the pin of each of the 16 passes, where it has one
pub record Pinned : Type 0 where
  pub k : ℕ
  pub pins : List (Option Pin)

-- the number of the frame of a pin whose region meets a tile, in a list
abbrev pub frame_on : ℕ → TileId → Option Pin → List ℕ
frame_on k t None = []
frame_on k t (Some pin) = if meets_tile k pin.region t then pin.frame ∷ [] else []

-- the least number of a frame whose region meets a tile
unfoldable pub first_frame : Pinned → TileId → Option ℕ
first_frame pinned t = fold lesser None (flat_map (frame_on pinned.k t) pinned.pins)

-- the region of a pin meets a tile
abbrev pub is_on : ℕ → TileId → Option Pin → Bool
is_on k t None = false
is_on k t (Some pin) = meets_tile k pin.region t

-- no pass has a pin
unfoldable pub no_pins : ℕ → Pinned
no_pins k = record { k = k; pins = replicate 16 None }
