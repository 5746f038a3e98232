use Rattle.std.proofs.Common.{ℕ, ℤ, List, [], pos, ◌+ℤ◌, arith}
use Rattle.std.specs.Int.{w32}
use Rattle.std.proofs.lemmas.Int.{to_z-of_z}
use Rattle.terrain_model.specs.Terrain.{level_height}
use Rattle.four_point.proofs.AroundLemmas.{of_seven, IsRow, place_itself, patch_predicts}
use Rattle.store_reader.proofs.PatchLemmas.{placed, row_is, next_row_is}
use Rattle.store_reader.proofs.blocks.inner_patch.Goals as goal

pub returns-clause-predictions : goal.returns-clause-predictions
returns-clause-predictions c =
    let H = level_height c.args.grid.now 0 in
    let i0 = c.args.column in
    let j0 = c.args.row in
    let p = c.requires.east in
    let q = c.requires.south in
    patch_predicts H (pos i0) (pos j0) _ _ _ (to_z-of_z w32 (pos i0) (place_itself (pos i0) (placed i0 p))) (to_z-of_z w32 (pos j0) (place_itself (pos j0) (placed j0 q)))
    (of_seven (λ (n : ℕ) (row : List ℤ). IsRow H (pos i0) (pos j0 +ℤ pos n) row) c.row_of.result c.row_of-2.result c.row_of-3.result c.row_of-4.result c.row_of-5.result c.row_of-6.result c.row_of-7.result []
    (row_is H i0 j0 c.row_of.result p q c.row_of.ensures)
    (next_row_is H i0 j0 1 c.row_of-2.result (omega arith) p q c.row_of-2.ensures)
    (next_row_is H i0 j0 2 c.row_of-3.result (omega arith) p q c.row_of-3.ensures)
    (next_row_is H i0 j0 3 c.row_of-4.result (omega arith) p q c.row_of-4.ensures)
    (next_row_is H i0 j0 4 c.row_of-5.result (omega arith) p q c.row_of-5.ensures)
    (next_row_is H i0 j0 5 c.row_of-6.result (omega arith) p q c.row_of-6.ensures)
    (next_row_is H i0 j0 6 c.row_of-7.result (omega arith) p q c.row_of-7.ensures))
