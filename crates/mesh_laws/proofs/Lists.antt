-- What is true of all elements of lists that are put together from others, and where an element stands in them.
use Rattle.std.proofs.Common.{◌≡◌, ℕ, ◌+◌, ◌<◌, List, [], ◌∷◌, ◌++◌, length, get_or, map, refl, ap, ◌∙◌, length-append, arith}
use Rattle.std.specs.List.{All, flat_map, range_with_len}
use Rattle.std.proofs.lemmas.List.{get_or-map, get_or_append_left, get_or-append-add, length-map}
use Rattle.std.proofs.lemmas.List.Elements.{All-head, All-tail}
use Rattle.std.proofs.lemmas.List.FromFn.{get_or-map-range_with_len, length-map-range_with_len}

-- two functions that agree on a list give one list
pub flat_map_same : {A B : Type 0} (f g : A → List B) (xs : List A) → All (λ x. f x ≡ g x) xs → flat_map f xs ≡ flat_map g xs
flat_map_same f g [] h = refl
flat_map_same f g (x ∷ xs) h =
    ap (λ row. row ++ flat_map f xs) (All-head (λ y. f y ≡ g y) x xs h)
    ∙ ap (λ rest. g x ++ rest) (flat_map_same f g xs (All-tail (λ y. f y ≡ g y) x xs h))

-- x stands at place k of xs
pub record IsAt {A : Type 0} (xs : List A) (k : ℕ) (x : A) : Type 0 where
  pub low : k < length xs
  pub is : (d : A) → get_or xs k d ≡ x

pub at_left : {A : Type 0} (xs ys : List A) (k : ℕ) (x : A) → IsAt xs k x → IsAt (xs ++ ys) k x
at_left xs ys k x h = record {
  low = let low = h.low in omega (arith, length-append xs ys, low);
  is = λ d. get_or_append_left xs ys d k h.low ∙ h.is d;
}

pub at_right : {A : Type 0} (xs ys : List A) (k : ℕ) (x : A) → IsAt ys k x → IsAt (xs ++ ys) (length xs + k) x
at_right xs ys k x h = record {
  low = let low = h.low in omega (arith, length-append xs ys, low);
  is = λ d. get_or-append-add xs ys k d ∙ h.is d;
}

pub at_map : {A B : Type 0} (f : A → B) (xs : List A) (k : ℕ) (x : A) → IsAt xs k x → IsAt (map f xs) k (f x)
at_map f xs k x h = record {
  low = let low = h.low in omega (arith, length-map xs f, low);
  is = λ d. get_or-map f xs k x d h.low ∙ ap f (h.is x);
}

pub at_range : {A : Type 0} (f : ℕ → A) (s n u v : ℕ) → u < n → s + u ≡ v → IsAt (map f (range_with_len s n)) u (f v)
at_range f s n u v low e = record {
  low = omega (arith, length-map-range_with_len f s n);
  is = λ d. get_or-map-range_with_len f s n u v d low e;
}
