use Rattle.plan_model.proofs.WindowLaws.{one_tile_a_block}
use Rattle.plan_model.proofs.windows.blocks_have_one_tile.Goals as goal

pub returns : goal.returns
returns c = one_tile_a_block
