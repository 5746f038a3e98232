use Rattle.plan_laws.proofs.HullLaws.{hulls_are_even_inside}
use Rattle.plan_laws.proofs.growth.hulls_are_even_inside.Goals as goal

pub returns : goal.returns
returns c = hulls_are_even_inside c.windows_have_even_corners.ensures
