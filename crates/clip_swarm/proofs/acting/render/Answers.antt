use Rattle.clip_swarm.specs.Playing.{asked_of}
use Rattle.clip_swarm.proofs.Shares.{started_free, renderer_played}
use Rattle.clip_swarm.proofs.acting.render.Goals as goal

pub make_frames-requires-clause-free : goal.make_frames-requires-clause-free
make_frames-requires-clause-free g c = started_free c.args.clip.now c.args.pass.number c.args.pass c.requires.started

pub returns-clause-played : goal.returns-clause-played
returns-clause-played g c =
    renderer_played (asked_of c.args.script.now c.args.crew) c.args.clip.now c.in_ok-full.full c.args.pass c.make_frames.new.pass c.requires.started c.requires.low c.requires.high
    c.new-frames.result.items c.make_frames.new.frames.items c.new-frames.ensures.items c.in_ok-full.ensures.draws
