use Rattle.plan_laws.proofs.DrawnLaws.{actives_are_as_many}
use Rattle.plan_laws.proofs.sights.actives_are_as_many.Goals as goal

pub returns : goal.returns
returns c = actives_are_as_many
