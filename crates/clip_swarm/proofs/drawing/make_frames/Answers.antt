use Rattle.std.proofs.Common.{◌≡◌, Bool, true, false, ◌∙◌, subst, arith}
use Rattle.swarm_laws.specs.Shares.{begins_share}
use Rattle.swarm_passes.specs.Drawing.{Renders}
use Rattle.swarm_passes.proofs.Loops.{begins_then, begins_cut}
use Rattle.swarm_passes.proofs.Rendering.{renders_none}
use Rattle.clip_swarm.proofs.drawing.make_frames.Goals as goal

pub loop-made-init : goal.loop-made-init
loop-made-init g c = renders_none c.args.pass.now c.args.frames.now.items c.requires.free

pub loop-made-preserved : goal.loop-made-preserved
loop-made-preserved g c =
    begins_then c.loop-made._made false c.args.pass.now c.loop-made.pass c.make_frame.new.pass c.args.frames.now.items c.loop-made.frames.items c.make_frame.new.frames.items c.loop-made.invariant
    (subst (λ (full : Bool). Renders (begins_share 1) full c.loop-made.pass c.make_frame.new.pass c.loop-made.frames.items c.make_frame.new.frames.items) c.if-branch.false c.in_ok-make_frame.ensures.draws)

pub returns-then-branch : goal.returns-then-branch
returns-then-branch g c = record {
  draws = begins_cut c.loop-made._made c.args.begins c.args.pass.now c.loop-made.pass c.make_frame.new.pass c.args.frames.now.items c.loop-made.frames.items c.make_frame.new.frames.items (omega arith) c.loop-made.invariant
      (subst (λ (full : Bool). Renders (begins_share 1) full c.loop-made.pass c.make_frame.new.pass c.loop-made.frames.items c.make_frame.new.frames.items) c.if-branch.true c.in_ok-make_frame.ensures.draws);
}
