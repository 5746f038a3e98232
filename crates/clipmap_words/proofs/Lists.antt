-- Tests over the images of a list's elements, and lists that are too short for a command.
use Rattle.std.proofs.Common.{◌≡◌, ℕ, ◌<◌, Bool, true, false, not, nat_le, nat_eq, ◌⊎◌, List, [], ◌∷◌, None, map, length, refl, ap, arith, ◌&&◌, ◌||◌}
use Rattle.std.specs.List.{list_all, list_any}
use Rattle.std.proofs.lemmas.List.{length-map}
use Rattle.std.proofs.lemmas.List.Folds.{list_all-map}
use Rattle.clipmap_words.specs.Names.{is_name, is_store, is_inputs}
use Rattle.clipmap_words.specs.Fly.{fly_of}
use Rattle.clipmap_words.specs.Frame.{frame_of}
use Rattle.clipmap_words.specs.Pack.{pack_of}
use Rattle.clipmap_words.specs.PackBy.{pack_by_of}
use Rattle.clipmap_words.specs.Swarm.{swarm_of}

pub list_any-map : {A B : Type 0} (p : B → Bool) (f : A → B) (xs : List A) → list_any p (map f xs) ≡ list_any (λ x. p (f x)) xs
list_any-map p f [] = refl
list_any-map p f (x ∷ xs) = ap (λ rest. p (f x) || rest) (list_any-map p f xs)

-- fewer than five words are no frame
pub frame_of_few : (words : List (List ℕ)) → length words < 5 → frame_of words ≡ None
unfolding frame_of
frame_of_few [] few = refl
frame_of_few (_ ∷ []) few = refl
frame_of_few (_ ∷ _ ∷ []) few = refl
frame_of_few (_ ∷ _ ∷ _ ∷ []) few = refl
frame_of_few (_ ∷ _ ∷ _ ∷ _ ∷ []) few = refl
frame_of_few (_ ∷ _ ∷ _ ∷ _ ∷ _ ∷ rest) few = absurd (omega arith)

-- fewer than two words are no pack, and fewer than three no pack by a step
pub pack_of_few : (words : List (List ℕ)) → length words < 2 → pack_of words ≡ None
unfolding pack_of
pack_of_few [] few = refl
pack_of_few (_ ∷ []) few = refl
pack_of_few (_ ∷ _ ∷ rest) few = absurd (omega arith)

-- fewer than three words are no flight
pub fly_of_few : (words : List (List ℕ)) → length words < 3 → fly_of words ≡ None
unfolding fly_of
fly_of_few [] few = refl
fly_of_few (_ ∷ []) few = refl
fly_of_few (_ ∷ _ ∷ []) few = refl
fly_of_few (_ ∷ _ ∷ _ ∷ rest) few = absurd (omega arith)

pub pack_by_of_few : (words : List (List ℕ)) → length words < 3 → pack_by_of words ≡ None
unfolding pack_by_of
pack_by_of_few [] few = refl
pack_by_of_few (_ ∷ []) few = refl
pack_by_of_few (_ ∷ _ ∷ []) few = refl
pack_by_of_few (_ ∷ _ ∷ _ ∷ rest) few = absurd (omega arith)

-- fewer than four words are no swarm
pub swarm_of_few : (words : List (List ℕ)) → length words < 4 → swarm_of words ≡ None
unfolding swarm_of
swarm_of_few [] few = refl
swarm_of_few (_ ∷ []) few = refl
swarm_of_few (_ ∷ _ ∷ []) few = refl
swarm_of_few (_ ∷ _ ∷ _ ∷ []) few = refl
swarm_of_few (_ ∷ _ ∷ _ ∷ _ ∷ rest) few = absurd (omega arith)

-- the inputs' test in the words of the strings that hold them
pub is_inputs-map : {A : Type 0} (f : A → List ℕ) (xs : List A) → is_inputs (map f xs) ≡ (nat_le 1 (length xs) && nat_le (length xs) 64 && list_all (λ x. is_name (f x)) xs && (nat_eq (length xs) 1 || not (list_any (λ x. is_store (f x)) xs)))
is_inputs-map f xs = simp (length-map xs f, list_all-map is_name f xs, list_any-map is_store f xs)

-- how the test goes on from its parts
pub refused_inputs : (a b c d : Bool) → (a ≡ false) ⊎ ((b ≡ false) ⊎ (c ≡ false)) → false ≡ (a && b && c && d)
refused_inputs false b c d h = refl
refused_inputs true false c d h = refl
refused_inputs true true false d h = refl
refused_inputs true true true d h = grind arith

pub judged_inputs : (a b c d : Bool) → a ≡ true → b ≡ true → c ≡ true → d ≡ (a && b && c && d)
judged_inputs a b c d ha hb hc = cc
