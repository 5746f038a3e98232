use Rattle.plan_laws.proofs.PieceLaws.{pieces_in_blocks}
use Rattle.plan_laws.proofs.blocks.pieces_lie_in_blocks.Goals as goal

pub returns : goal.returns
returns c = pieces_in_blocks
