use Rattle.plan_laws.proofs.AreaLaws.{unfilled_cells_are_the_rest}
use Rattle.plan_laws.proofs.areas.unfilled_cells_are_the_rest.Goals as goal

pub returns : goal.returns
returns c = unfilled_cells_are_the_rest
