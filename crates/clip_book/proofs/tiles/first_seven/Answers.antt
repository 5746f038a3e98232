use Rattle.std.proofs.Common.{◌≡◌, ℕ, ℤ, pos, ◌++◌, get_or}
use Rattle.four_point.proofs.AroundLemmas.{of_seven}
use Rattle.clip_book.proofs.WholeRows.{kept}
use Rattle.clip_book.proofs.tiles.first_seven.Goals as goal

pub returns : goal.returns
returns c =
    of_seven (λ (n : ℕ) (x : ℤ). x ≡ get_or (c.args.west.now ++ c.args.east.now) n (pos 0)) _ _ _ _ _ _ _ (pos 0)
    (kept c.height_of.result _ c.height_of.type_inv c.height_of.ensures)
    (kept c.height_of-2.result _ c.height_of-2.type_inv c.height_of-2.ensures)
    (kept c.height_of-3.result _ c.height_of-3.type_inv c.height_of-3.ensures)
    (kept c.height_of-4.result _ c.height_of-4.type_inv c.height_of-4.ensures)
    (kept c.height_of-5.result _ c.height_of-5.type_inv c.height_of-5.ensures)
    (kept c.height_of-6.result _ c.height_of-6.type_inv c.height_of-6.ensures)
    (kept c.height_of-7.result _ c.height_of-7.type_inv c.height_of-7.ensures)
