-- How lists over a range grow.
use Rattle.std.proofs.Common.{◌≡◌, ℕ, ◌+◌, List, [], ◌∷◌, ◌++◌, map, Result, Ok, Err, OnOk, true, false, refl, ap, sym, ◌∙◌, append_assoc, arith}
use Rattle.std.specs.Result.{is_err}
use Rattle.std.specs.List.{flat_map, range_with_len}
use Rattle.std.proofs.lemmas.List.{append-nil}
use Rattle.std.proofs.lemmas.List.FromFn.{map-range_with_len_more}
use Rattle.std.proofs.lemmas.List.Concat.{flat_map-append}

map_id : (xs : List ℕ) → map (λ x. x) xs ≡ xs
map_id [] = refl
map_id (x ∷ xs) = ap (λ rest. x ∷ rest) (map_id xs)

-- a range with one more number
range_more : (n : ℕ) → range_with_len 0 (n + 1) ≡ range_with_len 0 n ++ n ∷ []
range_more n = sym (map_id (range_with_len 0 (n + 1))) ∙ map-range_with_len_more (λ x. x) 0 n n (omega arith) ∙ ap (λ xs. xs ++ n ∷ []) (map_id (range_with_len 0 n))

-- one more image of a range
pub map_more : {A : Type 0} (f : ℕ → A) (base now next : List A) (n : ℕ) (x : A) → now ≡ base ++ map f (range_with_len 0 n) → next ≡ now ++ x ∷ [] → x ≡ f n →
    next ≡ base ++ map f (range_with_len 0 (n + 1))
map_more f base now next n x so_far pushed same =
    pushed ∙ ap (λ xs. xs ++ x ∷ []) so_far ∙ append_assoc base (map f (range_with_len 0 n)) (x ∷ [])
    ∙ ap (λ last. base ++ (map f (range_with_len 0 n) ++ last ∷ [])) same
    ∙ ap (λ xs. base ++ xs) (sym (map-range_with_len_more f 0 n n (omega arith)))

-- one more piece of a range
pub flat_map_more : {A : Type 0} (f : ℕ → List A) (base now next : List A) (n : ℕ) → now ≡ base ++ flat_map f (range_with_len 0 n) → next ≡ now ++ f n →
    next ≡ base ++ flat_map f (range_with_len 0 (n + 1))
flat_map_more f base now next n so_far appended =
    let last : flat_map f (range_with_len 0 (n + 1)) ≡ flat_map f (range_with_len 0 n) ++ f n = ap (flat_map f) (range_more n) ∙ flat_map-append f (range_with_len 0 n) (n ∷ []) ∙ ap (λ piece. flat_map f (range_with_len 0 n) ++ piece) (append-nil (f n)) in
    appended ∙ ap (λ xs. xs ++ f n) so_far ∙ append_assoc base (flat_map f (range_with_len 0 n)) (f n) ∙ ap (λ xs. base ++ xs) (sym last)

-- what an answer that is no error says
pub of_ok : {A E : Type 0} (r : Result A E) (P : Type 0) → false ≡ is_err r → OnOk r P → P
of_ok (Ok x) P fine h = h
of_ok (Err e) P fine h = absurd (let wrong : false ≡ true = fine in (cc))

-- two pushes are one piece
pub two_more : {A : Type 0} (now mid next : List A) (a b : A) → mid ≡ now ++ a ∷ [] → next ≡ mid ++ b ∷ [] → next ≡ now ++ a ∷ b ∷ []
two_more now mid next a b first second = second ∙ ap (λ xs. xs ++ b ∷ []) first ∙ append_assoc now (a ∷ []) (b ∷ [])
