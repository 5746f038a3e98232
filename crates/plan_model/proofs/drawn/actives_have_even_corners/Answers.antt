use Rattle.plan_model.proofs.ActiveLaws.{even_actives}
use Rattle.plan_model.proofs.drawn.actives_have_even_corners.Goals as goal

pub returns : goal.returns
returns c = even_actives
