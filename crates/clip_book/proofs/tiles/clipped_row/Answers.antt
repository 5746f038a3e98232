use Rattle.std.proofs.Common.{◌≡◌, ℕ, ℤ, pos, ◌+ℤ◌, arith}
use Rattle.four_point.proofs.AroundLemmas.{of_seven}
use Rattle.clip_book.proofs.SeenRows.{height_first, height_after}
use Rattle.clip_book.specs.Tiles.{seen}
use Rattle.clip_book.proofs.tiles.clipped_row.Goals as goal

pub returns : goal.returns
returns c =
    let H = seen c.args.torus.now c.args.region in
    let i0 = c.args.i0 in
    let b = c.args.j in
    let p = c.requires.column in
    let r = c.ranges.j in
    of_seven (λ (n : ℕ) (x : ℤ). x ≡ H (i0 +ℤ pos n) b) _ _ _ _ _ _ _ (pos 0)
    (height_first H i0 b c.seen.result p r c.seen.type_inv c.seen.ensures)
    (height_after H i0 b c.seen-2.result 1 (omega arith) p r c.seen-2.type_inv c.seen-2.ensures)
    (height_after H i0 b c.seen-3.result 2 (omega arith) p r c.seen-3.type_inv c.seen-3.ensures)
    (height_after H i0 b c.seen-4.result 3 (omega arith) p r c.seen-4.type_inv c.seen-4.ensures)
    (height_after H i0 b c.seen-5.result 4 (omega arith) p r c.seen-5.type_inv c.seen-5.ensures)
    (height_after H i0 b c.seen-6.result 5 (omega arith) p r c.seen-6.type_inv c.seen-6.ensures)
    (height_after H i0 b c.seen-7.result 6 (omega arith) p r c.seen-7.type_inv c.seen-7.ensures)
