use Rattle.plan_laws.proofs.PieceLaws.{pieces_have_cells}
use Rattle.plan_laws.proofs.blocks.pieces_have_cells.Goals as goal

pub returns : goal.returns
returns c = pieces_have_cells
