use Rattle.swarm_runs.proofs.Putting.{IsOn}
use Rattle.swarm_runs.proofs.frames.put_frames.Given as goal

abbrev pub invariant-loop-frame : goal.invariant-loop-frame
invariant-loop-frame g l = IsOn g.S.Shelf.leaves l.name l.frames l.frame-index (g.S.Shelf.told l.fn.shelf) (g.S.Shelf.told l.shelf)
