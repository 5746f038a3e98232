use Rattle.std.proofs.Common.{List, [], subst}
use Rattle.swarm_laws.specs.Runs.{Place}
use Rattle.swarm_laws.specs.Shares.{moves_share}
use Rattle.swarm_passes.specs.Going.{Goes}
use Rattle.clip_swarm.specs.Playing.{asked_of}
use Rattle.clip_swarm.proofs.Shares.{started_free, mover_played}
use Rattle.clip_swarm.proofs.acting.move_all.Goals as goal

pub make_moves-full-requires-clause-free : goal.make_moves-full-requires-clause-free
make_moves-full-requires-clause-free g c = started_free c.args.clip.now c.args.pass.number c.args.pass c.requires.started

pub returns-clause-played : goal.returns-clause-played
returns-clause-played g c =
    mover_played (asked_of c.args.script.now c.args.crew) c.args.clip.now c.make_moves-full.result c.args.pass c.make_moves-full.new.pass c.requires.started c.requires.first
    (subst (λ (moves : List Place). Goes (moves_share moves) c.make_moves-full.result [] c.args.pass c.make_moves-full.new.pass) c.deref.ensures.value c.make_moves-full.ensures.goes) c.new.result.items c.new.ensures.items
