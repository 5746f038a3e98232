-- Nothing is seen of a region that has no cell.
use Rattle.std.proofs.Common.{◌≡◌, ℕ, ◌<◌, ℤ, pos, ◌+ℤ◌, List, [], ◌∷◌, sym, ◌∙◌, slice_index_or}
use Rattle.clip_regions.proofs.Cells.{none_in_empty}
use Rattle.four_point.proofs.AroundLemmas.{of_seven}
use Rattle.clip_book.specs.Tiles.{seen}
use Rattle.clip_book.proofs.SeenRows.{seen_none}
use Rattle.clip_book.proofs.tiles.cut_square.Goals as goal

zeros : List ℤ
zeros = pos 0 ∷ pos 0 ∷ pos 0 ∷ pos 0 ∷ pos 0 ∷ pos 0 ∷ pos 0 ∷ []

zero_row : (H : ℤ → ℤ) (i0 : ℤ) → ((i : ℤ) → pos 0 ≡ H i) → (a : ℕ) → a < 7 → slice_index_or zeros a (pos 0) ≡ H (i0 +ℤ pos a)
unfolding zeros
zero_row H i0 none = of_seven (λ (n : ℕ) (x : ℤ). x ≡ H (i0 +ℤ pos n)) (pos 0) (pos 0) (pos 0) (pos 0) (pos 0) (pos 0) (pos 0) (pos 0) (none _) (none _) (none _) (none _) (none _) (none _) (none _)

zero_rows : (H : ℤ → ℤ → ℤ) (i0 j0 : ℤ) → ((i j : ℤ) → pos 0 ≡ H i j) → (a b : ℕ) → a < 7 → b < 7 →
    slice_index_or (slice_index_or (zeros ∷ zeros ∷ zeros ∷ zeros ∷ zeros ∷ zeros ∷ zeros ∷ []) b []) a (pos 0) ≡ H (i0 +ℤ pos a) (j0 +ℤ pos b)
zero_rows H i0 j0 none a b la lb =
    let row = λ (n : ℕ). zero_row (λ (i : ℤ). H i (j0 +ℤ pos n)) i0 (λ (i : ℤ). none i (j0 +ℤ pos n)) a la in
    of_seven (λ (n : ℕ) (xs : List ℤ). slice_index_or xs a (pos 0) ≡ H (i0 +ℤ pos a) (j0 +ℤ pos n)) zeros zeros zeros zeros zeros zeros zeros [] (row 0) (row 1) (row 2) (row 3) (row 4) (row 5) (row 6) b lb

pub returns-then-is_empty : goal.returns-then-is_empty
unfolding zeros
returns-then-is_empty c =
    let e = sym c.is_empty.ensures.value ∙ c.if-is_empty.true in
    zero_rows (seen c.args.torus.now c.args.region) c.args.i0 c.args.j0 (λ (i j : ℤ). sym (seen_none c.args.torus.now c.args.region i j (none_in_empty c.args.region i j e)))
