use Rattle.plan_laws.proofs.NeedLaws.{needs_are_monotone}
use Rattle.plan_laws.proofs.needs.needs_are_monotone.Goals as goal

pub returns : goal.returns
returns c = needs_are_monotone
