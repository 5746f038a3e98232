use Rattle.plan_model.proofs.ActiveLaws.{nested_actives}
use Rattle.plan_model.proofs.drawn.actives_are_nested.Goals as goal

pub returns : goal.returns
returns c = nested_actives
