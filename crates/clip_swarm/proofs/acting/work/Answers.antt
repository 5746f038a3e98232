use Rattle.clip_swarm.specs.Playing.{asked_of}
use Rattle.clip_swarm.proofs.Shares.{started_free, worker_played}
use Rattle.clip_swarm.proofs.acting.work.Goals as goal

pub make_claims-full-requires-clause-free : goal.make_claims-full-requires-clause-free
make_claims-full-requires-clause-free g c = started_free c.args.clip.now c.args.pass.number c.args.pass c.requires.started

pub returns-clause-played : goal.returns-clause-played
returns-clause-played g c =
    worker_played (asked_of c.args.script.now c.args.crew) c.args.clip.now c.make_claims-full.result c.args.pass c.make_claims-full.new.pass c.requires.started c.requires.low c.requires.high
    c.make_claims-full.ensures.goes c.new.result.items c.new.ensures.items
