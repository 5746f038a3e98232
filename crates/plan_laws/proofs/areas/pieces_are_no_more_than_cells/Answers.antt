use Rattle.plan_laws.proofs.AreaLaws.{pieces_are_no_more_than_cells}
use Rattle.plan_laws.proofs.areas.pieces_are_no_more_than_cells.Goals as goal

pub returns : goal.returns
returns c = pieces_are_no_more_than_cells
