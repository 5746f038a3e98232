use Rattle.plan_laws.proofs.NeedLaws.{needs_have_cells}
use Rattle.plan_laws.proofs.needs.needs_have_cells.Goals as goal

pub returns : goal.returns
returns c = needs_have_cells
