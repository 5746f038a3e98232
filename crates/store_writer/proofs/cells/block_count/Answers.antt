use Rattle.store_writer.proofs.Blocks.{count_is}
use Rattle.store_writer.proofs.cells.block_count.Goals as goal

pub returns-clause-value : goal.returns-clause-value
returns-clause-value c =
    count_is c.args.grid.now c.args.level c.level_size-columns.result.0 c.level_size-columns.result.1 _ _ c.level_size-columns.ensures.columns c.level_size-columns.ensures.rows c.blocks_on.ensures.value c.blocks_on-2.ensures.value
