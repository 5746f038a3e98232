use Rattle.std.proofs.Common.{false}
use Rattle.swarm_laws.specs.Shares.{begins_share}
use Rattle.swarm_passes.specs.Drawing.{Renders}
use Rattle.clip_swarm.proofs.drawing.make_frames.Given as goal

abbrev pub invariant-loop-made : goal.invariant-loop-made
invariant-loop-made g l = Renders (begins_share l._made) false l.initial.pass l.pass l.initial.frames.items l.frames.items
