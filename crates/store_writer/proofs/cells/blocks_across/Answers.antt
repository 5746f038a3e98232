use Rattle.std.proofs.Common.{◌∙◌, ap, arith}
use Rattle.store_model.specs.Sizes.{blocks_on}
use Rattle.store_writer.proofs.Blocks.{columns_are, width_small}
use Rattle.store_writer.proofs.cells.blocks_across.Goals as goal

pub returns-clause-value : goal.returns-clause-value
returns-clause-value c =
    c.blocks_on.ensures.value ∙ ap blocks_on (c.level_size.ensures.columns ∙ columns_are c.args.grid.now c.args.level)

pub returns-clause-few : goal.returns-clause-few
returns-clause-few c =
    let w = width_small c.args.grid.now c.width-width.ensures.terrain in
    let e = c.level_size.ensures in
    let b = c.blocks_on.ensures in
    omega arith
