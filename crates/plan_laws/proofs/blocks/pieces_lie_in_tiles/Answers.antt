use Rattle.plan_laws.proofs.PieceLaws.{pieces_in_tiles}
use Rattle.plan_laws.proofs.blocks.pieces_lie_in_tiles.Goals as goal

pub returns : goal.returns
returns c = pieces_in_tiles c.blocks_have_one_tile.ensures
