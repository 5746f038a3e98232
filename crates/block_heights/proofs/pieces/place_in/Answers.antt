use Rattle.std.proofs.Common.{arith}
use Rattle.std.proofs.lemmas.Int.{ints}
use Rattle.block_heights.proofs.Cells.{columns_is, rows_is}
use Rattle.block_heights.proofs.pieces.place_in.Goals as goal

pub returns-clause-in_columns : goal.returns-clause-in_columns
returns-clause-in_columns c =
    let l = c.requires.inside in
    let s = c.requires.region in
    let is = columns_is c.args.region s.some_columns in
    omega (arith, ints)

pub returns-clause-in_rows : goal.returns-clause-in_rows
returns-clause-in_rows c =
    let l = c.requires.inside in
    let s = c.requires.region in
    let is = rows_is c.args.region s.some_rows in
    omega (arith, ints)
