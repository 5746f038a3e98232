use Rattle.plan_laws.proofs.DrawnLaws.{actives_are_shown}
use Rattle.plan_laws.proofs.sights.actives_lie_in_windows.Goals as goal

pub returns : goal.returns
returns c = actives_are_shown
