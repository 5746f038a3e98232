use Rattle.std.proofs.Common.{◌*◌, ◌<◌, arith}
use Rattle.std.proofs.lemmas.Nat.{div_below}
use Rattle.store_reader.proofs.sizes.row_in.Goals as goal

pub returns-clause-below : goal.returns-clause-below
returns-clause-below c =
    let turned : c.args.k < c.args.down * c.args.across = omega arith in
    div_below c.args.k c.args.across c.args.down c.requires.some turned
