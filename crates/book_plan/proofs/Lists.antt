-- The first elements of a list that pass a test, by their places.
use Rattle.std.proofs.Common.{◌≡◌, ℕ, zero, suc, ◌+◌, ◌<◌, ◌≤◌, Bool, true, false, List, [], ◌∷◌, ◌++◌, length, map, filter, take, cond, inl, inr, get_or, Some, refl, ap, sym, ◌∙◌, arith}
use mathlib.Core.Path.{ap₂}
use Rattle.std.proofs.lemmas.List.{length-map, length-append, append_assoc}
use Rattle.std.proofs.lemmas.Bool.{cases_Bool}
use Rattle.std.specs.Option.{option_map}
use Rattle.plan_model.specs.Strips.{first_of}

-- where none of a list's elements passes
pub none_pass : {X : Type 0} (p : X → Bool) (xs : List X) → ((m : ℕ) (d : X) → m < length xs → p (get_or xs m d) ≡ false) → filter p xs ≡ []
none_pass p [] h = refl
none_pass {X = X} p (x ∷ xs) h =
    ap₂ (λ (b : Bool) (ys : List X). cond b (x ∷ ys) ys) (h 0 x (omega arith)) (none_pass p xs (λ m d b. h (suc m) d (omega arith)))

-- where the n-th is the first that passes
pub first_pass : {X : Type 0} (p : X → Bool) (xs : List X) (n : ℕ) (x : X) → n < length xs → ((m : ℕ) (d : X) → m < n → p (get_or xs m d) ≡ false) → x ≡ get_or xs n x → p x ≡ true → first_of (filter p xs) ≡ Some x
first_pass p [] n x i h e t = absurd (omega arith)
first_pass {X = X} p (y ∷ ys) zero x i h e t =
    ap (λ (b : Bool). first_of (cond b (y ∷ filter p ys) (filter p ys))) (ap p (sym e) ∙ t) ∙ ap Some (sym e)
first_pass {X = X} p (y ∷ ys) (suc n) x i h e t =
    ap (λ (b : Bool). first_of (cond b (y ∷ filter p ys) (filter p ys))) (h 0 x (omega arith)) ∙ first_pass p ys n x (omega arith) (λ m d b. h (suc m) d (omega arith)) e t

pub first_mapped : {X Y : Type 0} (f : X → Y) (xs : List X) → first_of (map f xs) ≡ option_map f (first_of xs)
first_mapped f [] = refl
first_mapped f (x ∷ xs) = refl

-- a filter keeps no more than there is, and so does a front
pub kept_few : {X : Type 0} (p : X → Bool) (xs : List X) → length (filter p xs) ≤ length xs
kept_few p [] = omega arith
kept_few p (x ∷ xs) =
    elim (cases_Bool (p x)) [
      | inl e ↦
          let here : length (filter p (x ∷ xs)) ≡ suc (length (filter p xs)) = ap (λ (b : Bool). length (cond b (x ∷ filter p xs) (filter p xs))) e in
          omega (arith, here, kept_few p xs)
      | inr e ↦
          let here : length (filter p (x ∷ xs)) ≡ length (filter p xs) = ap (λ (b : Bool). length (cond b (x ∷ filter p xs) (filter p xs))) e in
          omega (arith, here, kept_few p xs)
    ]

pub taken_few : {X : Type 0} (n : ℕ) (xs : List X) → length (take n xs) ≤ length xs
taken_few zero xs = omega arith
taken_few (suc n) [] = omega arith
taken_few (suc n) (x ∷ xs) = omega (arith, taken_few n xs)

-- a place before the end, where something is left of what is filled in
pub some_left : {X Y : Type 0} (f : X → Y) (done : List Y) (x : X) (rest left all : List X) (n : ℕ) → left ≡ x ∷ rest → done ++ map f left ≡ map f all → length all ≤ n → length done < n
some_left f done x rest left all n e g few =
    let lengths : length (done ++ map f left) ≡ length done + length (map f left) = length-append done (map f left) in
    let same : length (done ++ map f left) ≡ length (map f all) = ap length g in
    let one : length (map f left) ≡ suc (length rest) = ap (λ xs. length (map f xs)) e ∙ ap suc (length-map rest f) in
    omega (arith, lengths, same, one, length-map all f)

pub one_done : {X Y : Type 0} (f : X → Y) (done : List Y) (x : X) (rest left : List X) (all : List Y) → left ≡ x ∷ rest → done ++ map f left ≡ all → (done ++ f x ∷ []) ++ map f rest ≡ all
one_done f done x rest left all e g =
    append_assoc done (f x ∷ []) (map f rest) ∙ ap (λ xs. done ++ map f xs) (sym e) ∙ g
