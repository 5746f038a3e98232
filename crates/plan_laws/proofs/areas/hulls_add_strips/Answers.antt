use Rattle.plan_laws.proofs.AreaLaws.{hulls_add_strips}
use Rattle.plan_laws.proofs.areas.hulls_add_strips.Goals as goal

pub returns : goal.returns
returns c = hulls_add_strips
