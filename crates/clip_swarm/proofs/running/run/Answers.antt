use Rattle.clip_swarm.proofs.Lands.{legal_for, frames_for}
use Rattle.clip_swarm.proofs.running.run.Goals as goal

pub returns-clause-legal : goal.returns-clause-legal
returns-clause-legal g c =
    legal_for c.in_ok-clip.clip.land (g.F.Filler.land c.args.filler.now) c.in_ok-clip.clip.size c.args.script.now.k c.args.script.now.levels c.ended.result.journal
    c.in_ok-clip.ensures.land c.in_ok-clip.ensures.script.same c.requires.levels c.ended.ensures.legal

pub returns-clause-frames : goal.returns-clause-frames
returns-clause-frames g c =
    frames_for c.in_ok-clip.clip.land (g.F.Filler.land c.args.filler.now) c.in_ok-clip.clip.size c.args.script.now.k c.args.script.now.levels c.ended.result.journal
    c.in_ok-clip.ensures.land c.in_ok-clip.ensures.script.same c.requires.levels c.ended.result.frames.items c.ended.ensures.frames
