use Rattle.std.proofs.Common.{◌/◌, ◌%◌, rules, arith}
use Rattle.store_writer.proofs.Blocks.{column_inside, row_in, column_is, row_is, region_is, are_cells, width_small, height_small}
use Rattle.store_writer.proofs.cells.cells_of_block.Goals as goal

pub overflow_mul-y0 : goal.overflow_mul-y0
overflow_mul-y0 c =
    let s = c.level_size-columns.ensures in
    let y = row_in c.args.grid.now c.args.level c.args.k _ _ c.blocks_on-across.result s.some_rows.0 c.blocks_on-across.ensures.some s.columns s.rows c.blocks_on-across.ensures.value c.requires.block in
    let h = height_small c.args.grid.now c.width-width.ensures.terrain in
    search rules

pub overflow_sub-columns : goal.overflow_sub-columns
overflow_sub-columns c =
    let s = c.level_size-columns.ensures in
    let x = column_inside c.level_size-columns.result.0 c.blocks_on-across.result c.args.k s.some_columns.0 c.blocks_on-across.ensures.some c.blocks_on-across.ensures.value in
    omega arith

pub overflow_sub-rows : goal.overflow_sub-rows
overflow_sub-rows c =
    let s = c.level_size-columns.ensures in
    let y = row_in c.args.grid.now c.args.level c.args.k _ _ c.blocks_on-across.result s.some_rows.0 c.blocks_on-across.ensures.some s.columns s.rows c.blocks_on-across.ensures.value c.requires.block in
    omega arith

pub returns-clause-region : goal.returns-clause-region
returns-clause-region c =
    let s = c.level_size-columns.ensures in
    let x = column_inside c.level_size-columns.result.0 c.blocks_on-across.result c.args.k s.some_columns.0 c.blocks_on-across.ensures.some c.blocks_on-across.ensures.value in
    let y = row_in c.args.grid.now c.args.level c.args.k _ _ c.blocks_on-across.result s.some_rows.0 c.blocks_on-across.ensures.some s.columns s.rows c.blocks_on-across.ensures.value c.requires.block in
    region_is c.args.grid.now c.args.level c.args.k c.level_size-columns.result.0 c.level_size-columns.result.1 c.blocks_on-across.result _ _ s.columns s.rows c.blocks_on-across.ensures.value x y c.min.ensures c.min-2.ensures

pub returns-clause-cells : goal.returns-clause-cells
returns-clause-cells c =
    let s = c.level_size-columns.ensures in
    let x = column_inside c.level_size-columns.result.0 c.blocks_on-across.result c.args.k s.some_columns.0 c.blocks_on-across.ensures.some c.blocks_on-across.ensures.value in
    let y = row_in c.args.grid.now c.args.level c.args.k _ _ c.blocks_on-across.result s.some_rows.0 c.blocks_on-across.ensures.some s.columns s.rows c.blocks_on-across.ensures.value c.requires.block in
    let w = width_small c.args.grid.now c.width-width.ensures.terrain in
    let h = height_small c.args.grid.now c.width-width.ensures.terrain in
    are_cells (c.args.k % c.blocks_on-across.result) (c.args.k / c.blocks_on-across.result) c.level_size-columns.result.0 c.level_size-columns.result.1 _ _ x y (omega arith) (omega arith) c.min.ensures c.min-2.ensures

pub returns-clause-first_column : goal.returns-clause-first_column
returns-clause-first_column c =
    column_is c.args.grid.now c.args.level c.args.k c.level_size-columns.result.0 c.blocks_on-across.result c.level_size-columns.ensures.columns c.blocks_on-across.ensures.value

pub returns-clause-first_row : goal.returns-clause-first_row
returns-clause-first_row c =
    row_is c.args.grid.now c.args.level c.args.k c.level_size-columns.result.0 c.blocks_on-across.result c.level_size-columns.ensures.columns c.blocks_on-across.ensures.value
