use Rattle.std.proofs.Common.{arith}
use Rattle.std.proofs.lemmas.Int.{ints}
use Rattle.block_heights.proofs.Cells.{columns_is, rows_is}
use Rattle.block_heights.proofs.pieces.sides_of.Goals as goal

pub returns-clause-columns : goal.returns-clause-columns
returns-clause-columns c =
    let r = c.requires in
    let is = columns_is c.args.region c.requires.some_columns in
    omega (arith, ints)

pub returns-clause-rows : goal.returns-clause-rows
returns-clause-rows c =
    let r = c.requires in
    let is = rows_is c.args.region c.requires.some_rows in
    omega (arith, ints)
