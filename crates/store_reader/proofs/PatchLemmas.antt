-- Patches whose rows are copied from a level that they lie in.
use Rattle.std.proofs.Common.{◌≡◌, ℕ, ◌+◌, ◌<◌, ◌≤◌, ℤ, pos, ◌+ℤ◌, List, get_or, sym, ◌∙◌, arith}
use Rattle.std.specs.Int.{w32}
use Rattle.std.proofs.lemmas.Int.{ints, to_z-of_z}
use mathlib.Core.Path.{ap₂}
use mir.Val.{SFits, to_z, of_z}
use Rattle.four_point.specs.Patches.{IsPlace}
use Rattle.four_point.proofs.AroundLemmas.{IsRow, row_after, row_first, place_itself, place_fits, read_after}

pub placed_at : (n k : ℕ) → n ≤ 67108864 → k ≤ 6 → IsPlace (pos n +ℤ pos k)
placed_at n k few small = record { low = omega (arith, ints); high = omega (arith, ints) }

pub placed : (n : ℕ) → n ≤ 67108864 → IsPlace (pos n)
placed n few = record { low = omega (arith, ints); high = omega (arith, ints) }

-- the first row, and one of the next six
pub row_is : (H : ℤ → ℤ → ℤ) (i0 j0 : ℕ) (row : List ℤ) → i0 ≤ 67108864 → j0 ≤ 67108864 → ((a : ℕ) → a < 7 → get_or row a (pos 0) ≡ H (pos (i0 + a)) (pos j0)) → IsRow H (pos i0) (pos j0 +ℤ pos 0) row
row_is H i0 j0 row few few' read =
    row_first H (pos i0) (pos j0) row (placed i0 few) (placed j0 few') (λ (a : ℕ) (l : a < 7).
    let across : pos (i0 + a) ≡ to_z w32 (of_z w32 (pos i0)) +ℤ pos a = (let same = to_z-of_z w32 (pos i0) (place_itself (pos i0) (placed i0 few)) in omega (arith, ints, same)) in
    read a l ∙ ap₂ H across (sym (to_z-of_z w32 (pos j0) (place_itself (pos j0) (placed j0 few')))))

pub next_row_is : (H : ℤ → ℤ → ℤ) (i0 j0 k : ℕ) (row : List ℤ) → k ≤ 6 → i0 ≤ 67108864 → j0 ≤ 67108864 → ((a : ℕ) → a < 7 → get_or row a (pos 0) ≡ H (pos (i0 + a)) (pos (j0 + k))) → IsRow H (pos i0) (pos j0 +ℤ pos k) row
next_row_is H i0 j0 k row small few few' read =
    let down_fits : SFits w32 (pos j0 +ℤ pos k) = place_fits (pos j0) k small (placed j0 few') (placed_at j0 6 few' (omega arith)) in
    let again = read_after (pos j0) k (place_itself (pos j0) (placed j0 few')) down_fits in
    row_after H (pos i0) (pos j0) row k small (placed i0 few) (placed j0 few') (placed_at j0 6 few' (omega arith)) (λ (a : ℕ) (l : a < 7).
    let across : pos (i0 + a) ≡ to_z w32 (of_z w32 (pos i0)) +ℤ pos a = (let same = to_z-of_z w32 (pos i0) (place_itself (pos i0) (placed i0 few)) in omega (arith, ints, same)) in
    let down : pos (j0 + k) ≡ pos j0 +ℤ pos k = omega (arith, ints) in
    read a l ∙ ap₂ H across (down ∙ sym again))
