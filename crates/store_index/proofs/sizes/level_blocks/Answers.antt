use Rattle.store_index.proofs.Counts.{total_is}
use Rattle.store_index.proofs.sizes.level_blocks.Goals as goal

pub returns-clause-value : goal.returns-clause-value
returns-clause-value c =
    total_is c.args.header.width c.args.header.height c.args.level _ _ _ _ c.cells_on.ensures.value c.cells_on-2.ensures.value c.blocks_on-across.ensures.value c.blocks_on-down.ensures.value
