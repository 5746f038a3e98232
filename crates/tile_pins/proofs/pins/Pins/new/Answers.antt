use Rattle.std.proofs.Common.{refl}
use Rattle.tile_pins.specs.Pinned.{no_pins}
use Rattle.tile_pins.proofs.pins.Pins.new.Goals as goal

pub returns-in-Ok : goal.returns-in-Ok
unfolding no_pins
returns-in-Ok c = refl
