use Rattle.plan_model.proofs.ActiveLaws.{actives_are_filled}
use Rattle.plan_model.proofs.drawn.actives_are_filled.Goals as goal

pub returns : goal.returns
returns c = actives_are_filled
