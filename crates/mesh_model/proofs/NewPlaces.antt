-- Which places triangles have.
use Rattle.std.proofs.Common.{◌≡◌, ℕ, ◌+◌, Bool, true, false, List, [], ◌∷◌, ◌++◌, length, sym, refl, ap, ◌∙◌, length-append, arith}
use Rattle.std.specs.Prelude.{if◌then◌else◌}
use Rattle.std.specs.List.{filter, range_with_len}
use Rattle.std.proofs.lemmas.List.Elements.{filter-append}
use Rattle.mesh_model.specs.Seen.{is_named, named_places, new_place}
use Rattle.std.proofs.lemmas.List.{map-id}
use Rattle.std.proofs.lemmas.List.FromFn.{map-range_with_len_more}

-- one number more
pub counting_more : (n : ℕ) → range_with_len 0 (n + 1) ≡ range_with_len 0 n ++ n ∷ []
counting_more n =
    sym (map-id (range_with_len 0 (n + 1)))
    ∙ map-range_with_len_more (λ (x : ℕ). x) 0 n n (omega arith)
    ∙ ap (λ before. before ++ n ∷ []) (map-id (range_with_len 0 n))

pub no_place : (triangles : List (List ℕ)) → 0 ≡ new_place triangles 0
unfolding new_place named_places
no_place triangles = refl

one_more : (p : ℕ → Bool) (n : ℕ) → length (filter p (range_with_len 0 (n + 1))) ≡ length (filter p (range_with_len 0 n)) + length (filter p (n ∷ []))
one_more p n =
    ap (λ places. length (filter p places)) (counting_more n)
    ∙ ap length (filter-append p (range_with_len 0 n) (n ∷ []))
    ∙ length-append (filter p (range_with_len 0 n)) (filter p (n ∷ []))

pub place_more : (triangles : List (List ℕ)) (n : ℕ) → is_named triangles n ≡ true → new_place triangles (n + 1) ≡ new_place triangles n + 1
unfolding new_place named_places
place_more triangles n e = one_more (is_named triangles) n ∙ rw e refl

pub place_same : (triangles : List (List ℕ)) (n : ℕ) → is_named triangles n ≡ false → new_place triangles (n + 1) ≡ new_place triangles n
unfolding new_place named_places
place_same triangles n e = one_more (is_named triangles) n ∙ rw e (omega arith)

-- the named places below one number more
pub named_more : (triangles : List (List ℕ)) (n : ℕ) → named_places triangles (n + 1) ≡ named_places triangles n ++ (if is_named triangles n then n ∷ [] else [])
unfolding named_places
named_more triangles n =
    ap (filter (is_named triangles)) (counting_more n) ∙ filter-append (is_named triangles) (range_with_len 0 n) (n ∷ [])
