use Rattle.plan_laws.proofs.HullLaws.{inside_is_held}
use Rattle.plan_laws.proofs.growth.inside_is_held.Goals as goal

pub returns : goal.returns
returns c = inside_is_held
