use Rattle.std.proofs.Common.{false, [], take}
use Rattle.swarm_laws.specs.Shares.{moves_share}
use Rattle.swarm_passes.specs.Going.{Goes}
use Rattle.clip_swarm.proofs.working.make_moves.Given as goal

abbrev pub invariant-loop-place : goal.invariant-loop-place
invariant-loop-place g l = Goes (moves_share (take l.place-index l.moves)) false [] l.initial.pass l.pass
