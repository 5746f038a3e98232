use Rattle.std.proofs.Common.{◌≡◌, [], take, drop}
use Rattle.mosaic.specs.Faults.{twin_after}
use Rattle.mosaic.proofs.joining.twin.Given as goal

abbrev pub invariant-loop-n : goal.invariant-loop-n
invariant-loop-n l = twin_after (take l.n l.tiles) (drop l.n l.tiles) ≡ twin_after [] l.tiles
