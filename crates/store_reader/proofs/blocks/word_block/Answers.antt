use Rattle.std.proofs.Common.{pos, rules, arith}
use Rattle.std.proofs.lemmas.Int.{ints}
use Rattle.terrain_model.specs.Terrain.{level_height}
use Rattle.four_point.specs.Patches.{patch_height}
use Rattle.store_reader.proofs.CellNumbers.{on_ok, if_err}
use Rattle.store_reader.proofs.WordLemmas.{SameIn, same_in, coded_of, coded_fault}
use Rattle.store_reader.proofs.blocks.word_block.Goals as goal

pub returns-clause-heights : goal.returns-clause-heights
returns-clause-heights c =
    let place = c.args.place in
    let part = c.requires.place.part in
    let coarser = patch_height c.patch_over-patch.result in
    let other = level_height c.args.grid.now 0 in
    let small = c.requires.place.west in
    let few = c.requires.place.north in
    let same : SameIn coarser other place.cells =
    same_in coarser other (pos place.bx) (pos place.by) place.cells part
    (λ i j p q.
    let a = p.low in
    let b = p.high in
    let d = q.low in
    let e = q.high in
    c.patch_over-patch.ensures.predictions i j (record { low = omega (arith, ints); high = omega (arith, ints) }) (record { low = omega (arith, ints); high = omega (arith, ints) })) in
    on_ok _ _ c.piece_heights.result
    (λ h. coded_of coarser other c.args.step place.cells c.args.content.now c.piece_heights.new.out (search rules) same h)
    c.piece_heights.ensures.heights

pub returns-clause-fault : goal.returns-clause-fault
returns-clause-fault c =
    let place = c.args.place in
    let part = c.requires.place.part in
    let coarser = patch_height c.patch_over-patch.result in
    let other = level_height c.args.grid.now 0 in
    let small = c.requires.place.west in
    let few = c.requires.place.north in
    let west = part.west in
    let north = part.north in
    let same : SameIn coarser other place.cells =
    same_in coarser other (pos place.bx) (pos place.by) place.cells part
    (λ i j p q.
    let a = p.low in
    let b = p.high in
    let d = q.low in
    let e = q.high in
    c.patch_over-patch.ensures.predictions i j (record { low = omega (arith, ints); high = omega (arith, ints) }) (record { low = omega (arith, ints); high = omega (arith, ints) })) in
    if_err _ _ c.piece_heights.result
    (λ fault h. coded_fault coarser other c.args.step place.cells c.args.content.now _ fault (omega (arith, ints)) (omega (arith, ints)) same h)
    c.piece_heights.ensures.fault
