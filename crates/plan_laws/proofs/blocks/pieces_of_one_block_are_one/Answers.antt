use Rattle.plan_laws.proofs.PieceLaws.{one_piece_a_block}
use Rattle.plan_laws.proofs.blocks.pieces_of_one_block_are_one.Goals as goal

pub returns : goal.returns
returns c = one_piece_a_block
