use Rattle.std.proofs.Common.{arith}
use Rattle.std.proofs.lemmas.Int.{ints}
use Rattle.store_reader.proofs.blocks.patch_over.Goals as goal

pub returns-clause-predictions : goal.returns-clause-predictions
returns-clause-predictions c =
    λ i j p q.
    let west = c.requires.west in
    let east = c.requires.east in
    let north = c.requires.north in
    let south = c.requires.south in
    let a = p.low in
    let b = p.high in
    let d = q.low in
    let e = q.high in
    c.patch_around.ensures.predictions i j (record { low = omega (arith, ints); high = omega (arith, ints) }) (record { low = omega (arith, ints); high = omega (arith, ints) })
