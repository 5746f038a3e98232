use Rattle.std.proofs.Common.{◌≡◌, ℕ, ℤ, pos, ◌+ℤ◌, arith}
use Rattle.four_point.proofs.AroundLemmas.{of_seven, height_first, height_after}
use Rattle.four_point.proofs.around.row_around.Goals as goal

pub returns : goal.returns
returns g c =
    let H = g.H.Heights.heights c.args.heights.now in
    let i0 = c.args.i0 in
    let b = c.args.b in
    let p = c.requires.column in
    let q = c.requires.last_column in
    let r = c.requires.row in
    of_seven (λ (n : ℕ) (x : ℤ). x ≡ H (i0 +ℤ pos n) b) _ _ _ _ _ _ _ (pos 0)
    (height_first H i0 b c.height.result p r c.height.type_inv c.height.ensures)
    (height_after H i0 b c.height-2.result 1 (omega arith) p q r c.height-2.type_inv c.height-2.ensures)
    (height_after H i0 b c.height-3.result 2 (omega arith) p q r c.height-3.type_inv c.height-3.ensures)
    (height_after H i0 b c.height-4.result 3 (omega arith) p q r c.height-4.type_inv c.height-4.ensures)
    (height_after H i0 b c.height-5.result 4 (omega arith) p q r c.height-5.type_inv c.height-5.ensures)
    (height_after H i0 b c.height-6.result 5 (omega arith) p q r c.height-6.type_inv c.height-6.ensures)
    (height_after H i0 b c.height-7.result 6 (omega arith) p q r c.height-7.type_inv c.height-7.ensures)
