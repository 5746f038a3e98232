use Rattle.plan_laws.proofs.PieceLaws.{different_blocks}
use Rattle.plan_laws.proofs.blocks.pieces_have_different_blocks.Goals as goal

pub returns : goal.returns
returns c = different_blocks
