use Rattle.std.proofs.Common.{ℕ, ℤ, List, [], pos, ◌+ℤ◌, arith}
use Rattle.four_point.proofs.AroundLemmas.{of_seven}
use Rattle.clip_book.specs.Tiles.{seen}
use Rattle.clip_book.proofs.SeenRows.{IsRow, row_first, row_after}
use Rattle.clip_book.proofs.tiles.seen_rows.Goals as goal

pub returns : goal.returns
returns c =
    let H = seen c.args.torus.now c.args.region in
    let i0 = c.args.i0 in
    let j0 = c.args.j0 in
    let p = c.requires.column in
    let r = c.requires.row in
    λ a b la lb.
    of_seven (λ (n : ℕ) (row : List ℤ). IsRow H i0 (j0 +ℤ pos n) row) c.seen_row.result c.seen_row-2.result c.seen_row-3.result c.seen_row-4.result c.seen_row-5.result c.seen_row-6.result c.seen_row-7.result []
    (row_first H i0 j0 c.seen_row.result p r c.seen_row.ensures)
    (row_after H i0 j0 c.seen_row-2.result 1 (omega arith) p r c.seen_row-2.ensures)
    (row_after H i0 j0 c.seen_row-3.result 2 (omega arith) p r c.seen_row-3.ensures)
    (row_after H i0 j0 c.seen_row-4.result 3 (omega arith) p r c.seen_row-4.ensures)
    (row_after H i0 j0 c.seen_row-5.result 4 (omega arith) p r c.seen_row-5.ensures)
    (row_after H i0 j0 c.seen_row-6.result 5 (omega arith) p r c.seen_row-6.ensures)
    (row_after H i0 j0 c.seen_row-7.result 6 (omega arith) p r c.seen_row-7.ensures) b lb a la
