use Rattle.plan_model.proofs.CoverLaws.{grows_to_rectangle}
use Rattle.plan_model.proofs.cover.strips_grow_rectangles.Goals as goal

pub returns : goal.returns
returns c = grows_to_rectangle
