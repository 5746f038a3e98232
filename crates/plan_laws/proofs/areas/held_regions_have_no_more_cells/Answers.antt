use Rattle.plan_laws.proofs.AreaLaws.{held_have_no_more_cells}
use Rattle.plan_laws.proofs.areas.held_regions_have_no_more_cells.Goals as goal

pub returns : goal.returns
returns c = held_have_no_more_cells
