use Rattle.std.proofs.Common.{false, []}
use Rattle.swarm_laws.specs.Shares.{claims_share}
use Rattle.swarm_passes.specs.Going.{Goes}
use Rattle.clip_swarm.proofs.working.make_claims.Given as goal

abbrev pub invariant-loop-made : goal.invariant-loop-made
invariant-loop-made g l = Goes (claims_share l._made) false [] l.initial.pass l.pass
