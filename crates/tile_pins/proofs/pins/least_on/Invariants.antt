use Rattle.std.proofs.Common.{◌≡◌, fold, flat_map, take, None}
use Rattle.plan_model.specs.Tiles.{lesser}
use Rattle.tile_pins.specs.Pinned.{frame_on}
use Rattle.tile_pins.proofs.pins.least_on.Given as goal

abbrev pub invariant-loop-pin : goal.invariant-loop-pin
invariant-loop-pin l = l.least ≡ fold lesser None (flat_map (frame_on l.k l.tile) (take l.pin-index l.pins))
