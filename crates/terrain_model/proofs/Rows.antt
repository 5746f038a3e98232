-- Rows of equal length, one after another.
use Rattle.std.proofs.Common.{◌≡◌, ℕ, zero, suc, ◌+◌, ◌-◌, ◌*◌, ◌<◌, List, ◌++◌, length, get_or, flat_map, ap, sym, ◌∙◌, arith, length-append, All, zero-mul}
use Rattle.std.specs.List.{range_with_len}
use Rattle.std.proofs.lemmas.List.{get_or_append_left, get_or-append_right}
use Rattle.std.proofs.lemmas.List.Elements.{All-nil, All-append}

-- as many rows of w elements have w times their number
pub rows_length : {X : Type 0} (f : ℕ → List X) (w a n : ℕ) → ((v : ℕ) → length (f v) ≡ w) → length (flat_map f (range_with_len a n)) ≡ n * w
rows_length f w a zero each = sym (zero-mul w)
rows_length f w a (suc n) each =
    let rest : length (flat_map f (range_with_len (a + 1) n)) ≡ n * w = rows_length f w (a + 1) n each in
    let row : length (f a) ≡ w = each a in
    length-append (f a) (flat_map f (range_with_len (a + 1) n)) ∙ grind (arith, rest, row)

-- element u of row v stands after v rows
pub rows_at : {X : Type 0} (f : ℕ → List X) (w a n v u : ℕ) (d : X) → ((v : ℕ) → length (f v) ≡ w) → v < n → u < w → get_or (flat_map f (range_with_len a n)) (v * w + u) d ≡ get_or (f (a + v)) u d
rows_at f w a zero v u d each v_in u_in = absurd (omega arith)
rows_at f w a (suc n) zero u d each v_in u_in =
    let here : a + 0 ≡ a = omega arith in
    let place : 0 * w + u ≡ u = omega arith in
    let inside : u < length (f a) = omega (arith, each a) in
    rw (here, place) (get_or_append_left (f a) (flat_map f (range_with_len (a + 1) n)) d u inside)
rows_at f w a (suc n) (suc v) u d each v_in u_in =
    let here : a + suc v ≡ a + 1 + v = omega arith in
    let place : suc v * w + u ≡ w + (v * w + u) = grind arith in
    let back : w + (v * w + u) - w ≡ v * w + u = omega arith in
    let later : get_or (f a ++ flat_map f (range_with_len (a + 1) n)) (w + (v * w + u)) d ≡ get_or (flat_map f (range_with_len (a + 1) n)) (w + (v * w + u) - w) d =
    get_or-append_right (f a) (flat_map f (range_with_len (a + 1) n)) w (w + (v * w + u)) d (each a) (omega arith) in
    rw (here, place) (later ∙ ap (λ i. get_or (flat_map f (range_with_len (a + 1) n)) i d) back ∙ rows_at f w (a + 1) n v u d each (omega arith) u_in)

-- what is true of each element of each row
pub rows_all : {X : Type 0} (P : X → Type 0) (f : ℕ → List X) (a n : ℕ) → ((v : ℕ) → All P (f v)) → All P (flat_map f (range_with_len a n))
rows_all P f a zero each = All-nil P
rows_all P f a (suc n) each =
    All-append P (f a) (flat_map f (range_with_len (a + 1) n)) (each a) (rows_all P f (a + 1) n each)
