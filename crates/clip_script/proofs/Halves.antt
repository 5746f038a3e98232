-- How half-spaces are read one after the other.
use Rattle.std.proofs.Common.{◌≡◌, ℕ, zero, suc, ◌++◌, List, [], ◌∷◌, Option, Some, None, refl, sym, ap, ◌∙◌, subst, append_assoc, append-nil}
use Rattle.std.specs.Option.{option_map}
use Rattle.mesh_model.specs.declared.shapes.HalfSpace.{HalfSpace}
use Rattle.clip_script.specs.Steps.{SpaceSaid, space_of, spaces_of}

-- the half-spaces so far, and those that follow
abbrev pub after_spaces : List HalfSpace → Option (List HalfSpace) → Option (List HalfSpace)
after_spaces view (Some more) = Some (view ++ more)
after_spaces view None = None

pub spaces_start : (spaces : Option (List HalfSpace)) → spaces ≡ after_spaces [] spaces
spaces_start (Some more) = refl
spaces_start None = refl

one_before : (view : List HalfSpace) (space : HalfSpace) (spaces : Option (List HalfSpace)) →
    after_spaces view (option_map (λ more. space ∷ more) spaces) ≡ after_spaces (view ++ space ∷ []) spaces
one_before view space (Some more) = ap Some (sym (append_assoc view (space ∷ []) more))
one_before view space None = refl

pub spaces_end : (whole : Option (List HalfSpace)) (view : List HalfSpace) (most : ℕ) (words : List (List ℕ)) →
    whole ≡ after_spaces view (spaces_of most words) → words ≡ [] → whole ≡ Some view
unfolding spaces_of
spaces_end whole view most words so_far is =
    let P : List (List ℕ) → Type 0 = λ words. whole ≡ after_spaces view (spaces_of most words) in
    subst P is so_far ∙ ap Some (append-nil view)

pub spaces_bad : (whole : Option (List HalfSpace)) (view : List HalfSpace) (most : ℕ) (words : List (List ℕ)) (word : List ℕ) (more : List (List ℕ)) →
    whole ≡ after_spaces view (spaces_of most words) → words ≡ word ∷ more → space_of (word ∷ more) ≡ None → whole ≡ None
unfolding spaces_of
spaces_bad whole view zero words word more so_far is bad =
    let P : List (List ℕ) → Type 0 = λ words. whole ≡ after_spaces view (spaces_of zero words) in
    subst P is so_far
spaces_bad whole view (suc most) words word more so_far is bad =
    let P : List (List ℕ) → Type 0 = λ words. whole ≡ after_spaces view (spaces_of (suc most) words) in
    subst P is so_far ∙ rw bad refl

pub spaces_over : (whole : Option (List HalfSpace)) (view : List HalfSpace) (most : ℕ) (words : List (List ℕ)) (word : List ℕ) (more : List (List ℕ)) →
    whole ≡ after_spaces view (spaces_of most words) → most ≡ 0 → words ≡ word ∷ more → whole ≡ None
unfolding spaces_of
spaces_over whole view most words word more so_far none is =
    let P : List (List ℕ) → Type 0 = λ words. whole ≡ after_spaces view (spaces_of most words) in
    let Q : ℕ → Type 0 = λ most. whole ≡ after_spaces view (spaces_of most (word ∷ more)) in
    subst Q none (subst P is so_far)

pub spaces_more : (whole : Option (List HalfSpace)) (view : List HalfSpace) (most next : ℕ) (words : List (List ℕ)) (word : List ℕ) (more : List (List ℕ)) (said : SpaceSaid) →
    whole ≡ after_spaces view (spaces_of most words) → most ≡ suc next → words ≡ word ∷ more → space_of (word ∷ more) ≡ Some said →
    whole ≡ after_spaces (view ++ said.space ∷ []) (spaces_of next said.rest)
unfolding spaces_of
spaces_more whole view most next words word more said so_far one is good =
    let P : List (List ℕ) → Type 0 = λ words. whole ≡ after_spaces view (spaces_of most words) in
    let Q : ℕ → Type 0 = λ most. whole ≡ after_spaces view (spaces_of most (word ∷ more)) in
    subst Q one (subst P is so_far) ∙ rw good (one_before view said.space (spaces_of next said.rest))
