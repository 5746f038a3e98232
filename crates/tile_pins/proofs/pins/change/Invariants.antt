use Rattle.tile_pins.proofs.Changes.{ChangedSoFar}
use Rattle.tile_pins.proofs.pins.change.Given as goal

abbrev pub invariant-loop-n : goal.invariant-loop-n
invariant-loop-n l = ChangedSoFar l.k l.region l.more l.n l.initial.counts l.counts
