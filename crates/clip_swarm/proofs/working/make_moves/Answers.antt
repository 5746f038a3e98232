use Rattle.std.proofs.Common.{arith}
use Rattle.swarm_passes.proofs.Events.{goes_none}
use Rattle.swarm_passes.proofs.Loops.{moves_then, moves_cut}
use Rattle.clip_swarm.proofs.working.make_moves.Goals as goal

pub returns-then-make_move : goal.returns-then-make_move
returns-then-make_move g c = record {
  goes = moves_cut c.args.moves.now c.loop-place.place-index _ c.args.pass.now c.loop-place.pass c.make_move.new.pass c.loop-place-test.true c.loop-place.invariant c.if-make_move.ensures.goes;
}

pub loop-place-preserved : goal.loop-place-preserved
loop-place-preserved g c =
    moves_then c.args.moves.now c.loop-place.place-index _ _ c.args.pass.now c.loop-place.pass c.make_move.new.pass c.loop-place-test.true c.loop-place.invariant c.if-make_move.ensures.goes
