use Rattle.std.proofs.Common.{arith}
use Rattle.swarm_passes.proofs.Loops.{claims_then, claims_cut}
use Rattle.clip_swarm.proofs.working.make_claims.Goals as goal

pub returns-then-make_claim : goal.returns-then-make_claim
returns-then-make_claim g c = record {
  goes = claims_cut c.loop-made._made c.args.claims c.args.pass.now c.loop-made.pass c.make_claim.new.pass (omega arith) c.loop-made.invariant c.if-make_claim.ensures.goes;
}

pub loop-made-preserved : goal.loop-made-preserved
loop-made-preserved g c = claims_then c.loop-made._made _ c.args.pass.now c.loop-made.pass c.make_claim.new.pass c.loop-made.invariant c.if-make_claim.ensures.goes
