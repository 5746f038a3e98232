-- The heights that stand in a row where its voids were.
use Rattle.std.proofs.Common.{◌≡◌, ℕ, ◌+◌, ◌-◌, ◌<◌, true, false, not, cond, List, [], ◌∷◌, ◌++◌, length, get_or, find, reverse, take, drop, Some, unwrap_or, All, refl, ap, sym, subst, ◌∙◌, arith, ℤ, pos}
use Rattle.std.proofs.lemmas.List.{take_more, reverse-append}
use Rattle.std.proofs.lemmas.List.FromFn.{length-map-range_with_len, get_or-map-range_with_len}
use Rattle.std.proofs.lemmas.List.{get_or-reverse, length-reverse}
use Rattle.std.proofs.lemmas.List.Elements.{All-append, All-head, All-tail, All-take, All-drop}
use Rattle.terrain_model.specs.Voids.{is_void, first_known, known_at, without_voids}

-- the first known sample of a list has what each sample has, and so has 0
pub first_all : (P : ℤ → Type 0) (samples : List ℤ) → P (pos 0) → All P samples → P (first_known samples)
unfolding first_known
first_all P [] none all = none
first_all P (x ∷ xs) none all =
    elim (is_void x) as (λ b. P (unwrap_or (cond (not b) (Some x) (find (λ sample. not (is_void sample)) xs)) (pos 0))) [
      | true ↦ first_all P xs none (All-tail P x xs all)
      | false ↦ All-head P x xs all
    ]

reverse_all : (P : ℤ → Type 0) (xs : List ℤ) → All P xs → All P (reverse xs)
reverse_all P xs all k d inside =
    let here : k < length xs = subst (λ m. k < m) (length-reverse xs) inside in
    subst P (sym (get_or-reverse xs k d here)) (all (length xs - 1 - k) d (omega arith))

pub known_all : (P : ℤ → Type 0) (row : List ℤ) (n : ℕ) → P (pos 0) → All P row → P (known_at row n)
unfolding known_at
known_all P row n none all =
    first_all P (reverse (take (n + 1) row) ++ drop (n + 1) row) none (All-append P (reverse (take (n + 1) row)) (drop (n + 1) row) (reverse_all P (take (n + 1) row) (All-take P (n + 1) row all)) (All-drop P (n + 1) row all))

-- the first known sample is no void
pub first_is_known : (samples : List ℤ) → is_void (first_known samples) ≡ false
unfolding first_known is_void
first_is_known [] = refl
first_is_known (x ∷ xs) =
    elim (is_void x) as (λ b. is_void x ≡ b → is_void (unwrap_or (cond (not b) (Some x) (find (λ sample. not (is_void sample)) xs)) (pos 0)) ≡ false) [
      | true ↦ λ e. first_is_known xs
      | false ↦ λ e. e
    ] refl

-- a sample that is no void stays
pub known_stays : (row : List ℤ) (n : ℕ) → n < length row → is_void (get_or row n (pos 0)) ≡ false → known_at row n ≡ get_or row n (pos 0)
unfolding known_at first_known
known_stays row n inside known =
    let sample = get_or row n (pos 0) in
    let turned : reverse (take (n + 1) row) ≡ sample ∷ reverse (take n row) = ap reverse (take_more row n (pos 0) inside) ∙ reverse-append (take n row) (sample ∷ []) in
    rw (turned, known) refl

pub known_is_known : (row : List ℤ) (n : ℕ) → is_void (known_at row n) ≡ false
unfolding known_at
known_is_known row n = first_is_known (reverse (take (n + 1) row) ++ drop (n + 1) row)

pub filled_length : (row : List ℤ) → length (without_voids row) ≡ length row
unfolding without_voids
filled_length row = length-map-range_with_len (known_at row) 0 (length row)

pub filled_at : (row : List ℤ) (n : ℕ) (d : ℤ) → n < length row → get_or (without_voids row) n d ≡ known_at row n
unfolding without_voids
filled_at row n d inside = get_or-map-range_with_len (known_at row) 0 (length row) n n d inside (omega arith)

pub filled_all : (P : ℤ → Type 0) (row : List ℤ) → P (pos 0) → All P row → All P (without_voids row)
filled_all P row none all k d inside =
    let here : k < length row = subst (λ m. k < m) (filled_length row) inside in
    subst P (sym (filled_at row k d here)) (known_all P row k none all)
