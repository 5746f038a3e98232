use Rattle.std.proofs.Common.{ℕ, ℤ, List, [], pos, ◌+ℤ◌, arith}
use Rattle.std.specs.Int.{w32}
use Rattle.std.proofs.lemmas.Int.{to_z-of_z}
use Rattle.four_point.proofs.AroundLemmas.{of_seven, IsRow, row_first, row_after, place_itself, patch_predicts}
use Rattle.four_point.proofs.around.patch_around.Goals as goal

pub returns-clause-predictions : goal.returns-clause-predictions
returns-clause-predictions g c =
    let H = g.H.Heights.heights c.args.heights.now in
    let i0 = c.args.i0 in
    let j0 = c.args.j0 in
    let p = c.requires.column in
    let r = c.requires.row in
    let s = c.requires.last_row in
    patch_predicts H i0 j0 _ _ _ (to_z-of_z w32 i0 (place_itself i0 p)) (to_z-of_z w32 j0 (place_itself j0 r))
    (of_seven (λ (n : ℕ) (row : List ℤ). IsRow H i0 (j0 +ℤ pos n) row) c.row_around.result c.row_around-2.result c.row_around-3.result c.row_around-4.result c.row_around-5.result c.row_around-6.result c.row_around-7.result []
    (row_first H i0 j0 c.row_around.result p r c.row_around.ensures)
    (row_after H i0 j0 c.row_around-2.result 1 (omega arith) p r s c.row_around-2.ensures)
    (row_after H i0 j0 c.row_around-3.result 2 (omega arith) p r s c.row_around-3.ensures)
    (row_after H i0 j0 c.row_around-4.result 3 (omega arith) p r s c.row_around-4.ensures)
    (row_after H i0 j0 c.row_around-5.result 4 (omega arith) p r s c.row_around-5.ensures)
    (row_after H i0 j0 c.row_around-6.result 5 (omega arith) p r s c.row_around-6.ensures)
    (row_after H i0 j0 c.row_around-7.result 6 (omega arith) p r s c.row_around-7.ensures))
