use Rattle.plan_holds.proofs.Added.{frames_begun}
use Rattle.plan_holds.proofs.changes.steps_begin_frames.Goals as goal

pub returns : goal.returns
returns c = frames_begun c.actives_are_filled.ensures
