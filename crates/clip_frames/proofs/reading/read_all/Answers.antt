use Rattle.std.proofs.Common.{◌∙◌, refl}
use Rattle.book_plan.specs.Notes.{open_frame}
use Rattle.clip_frames.proofs.ReadLevels.{waited_none, waited_then, still_open}
use Rattle.clip_frames.proofs.reading.read_all.Goals as goal

pub loop-level-init : goal.loop-level-init
loop-level-init g c = (waited_none c.args.pass.now c.number-number.ensures.sound, refl, refl, c.requires.read)

pub read_one-requires-clause-frame : goal.read_one-requires-clause-frame
read_one-requires-clause-frame g c =
    still_open c.args.pass.now c.loop-level.pass (open_frame c.args.note.now) c.loop-level.invariant.0 c.requires.frame

pub loop-level-preserved : goal.loop-level-preserved
loop-level-preserved g c = (
  waited_then c.args.pass.now c.loop-level.pass c.read_one.new.pass c.loop-level.invariant.0 c.read_one.ensures.waited,
  c.read_one.ensures.size ∙ c.loop-level.invariant.1,
  c.read_one.ensures.regions ∙ c.loop-level.invariant.2,
  c.read_one.ensures.read,
)
