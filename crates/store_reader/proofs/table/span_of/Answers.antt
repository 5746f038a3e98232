use Rattle.std.proofs.Common.{arith}
use Rattle.std.proofs.lemmas.Int.{ints}
use Rattle.store_reader.proofs.CellNumbers.{columns_is, rows_is}
use Rattle.store_reader.proofs.table.span_of.Goals as goal

pub returns-clause-span : goal.returns-clause-span
returns-clause-span c =
    let part = c.requires.part in
    let west = part.west in
    let north = part.north in
    let wide = columns_is c.args.place.cells part.across in
    let high = rows_is c.args.place.cells part.down in
    record { west = omega (arith, ints); north = omega (arith, ints); across = omega (arith, ints); down = omega (arith, ints) }
