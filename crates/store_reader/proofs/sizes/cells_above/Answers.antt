use Rattle.std.proofs.Common.{arith}
use Rattle.store_reader.proofs.PlaceLemmas.{rows_short}
use Rattle.store_reader.proofs.sizes.cells_above.Goals as goal

pub overflow_mul-row : goal.overflow_mul-row
overflow_mul-row c =
    let h = c.args.header in
    let short = rows_short h.height c.args.level c.args.row c.requires.header.sound.some_rows c.requires.row in
    let few = c.requires.header.high in
    omega arith
