-- What is true of each element of a list, and of each two.
use Rattle.std.proofs.Common.{◌≡◌, ℕ, zero, suc, ◌+◌, ◌<◌, ◌≤◌, Bool, true, cond, List, [], ◌∷◌, ◌++◌, map, length, get_or, Some, sym, subst, inl, inr, arith}
use Rattle.std.proofs.lemmas.Bool.{cases_Bool}
use Rattle.std.proofs.lemmas.List.Elements.{All-nil, All-head, All-tail, All-append, All-weaker, All-map}
use Rattle.std.proofs.lemmas.List.FromFn.{length-range_with_len, get_or-range_with_len}
use Rattle.std.specs.List.{All, AllPairs, flat_map, filter, range_with_len}
use Rattle.plan_model.specs.Strips.{first_of}

-- ---- each element
pub All-range : (P : ℕ → Type 0) (s n : ℕ) → ((i : ℕ) → s ≤ i → i < s + n → P i) → All P (range_with_len s n)
All-range P s n each k d h =
    let count : length (range_with_len s n) ≡ n = length-range_with_len s n in
    let inside : k < n = omega arith in
    let at : get_or (range_with_len s n) k d ≡ s + k = get_or-range_with_len s n k d inside in
    subst P (sym at) (each (s + k) (omega arith) (omega arith))

pub All-flat_map : {X Y : Type 0} (P : Y → Type 0) (f : X → List Y) (xs : List X) → All (λ x. All P (f x)) xs → All P (flat_map f xs)
All-flat_map P f [] h = All-nil P
All-flat_map P f (x ∷ xs) h =
    All-append P (f x) (flat_map f xs) (All-head (λ y. All P (f y)) x xs h) (All-flat_map P f xs (All-tail (λ y. All P (f y)) x xs h))

-- what is true of each element that passes the test is true of the first that does
pub first_passes : {X : Type 0} (P : X → Type 0) (test : X → Bool) (xs : List X) (s : X) → All (λ x. test x ≡ true → P x) xs → first_of (filter test xs) ≡ Some s → P s
first_passes P test [] s h e = absurd (cc)
first_passes P test (x ∷ xs) s h e =
    elim (cases_Bool (test x)) [
      | inl t ↦
          let here : first_of (cond true (x ∷ filter test xs) (filter test xs)) ≡ Some s = subst (λ (b : Bool). first_of (cond b (x ∷ filter test xs) (filter test xs)) ≡ Some s) t e in
          let same : x ≡ s = cc in
          subst P same (All-head (λ y. test y ≡ true → P y) x xs h t)
      | inr t ↦ first_passes P test xs s (All-tail (λ y. test y ≡ true → P y) x xs h) (subst (λ (b : Bool). first_of (cond b (x ∷ filter test xs) (filter test xs)) ≡ Some s) t e)
    ]

-- ---- each two elements, the earlier one first
pub Pairs : {X : Type 0} → (X → X → Type 0) → List X → Type 0
Pairs R [] = Unit {0}
Pairs R (x ∷ xs) = All (R x) xs × Pairs R xs

pub pairs_nil : {X : Type 0} (R : X → X → Type 0) → Pairs R []
unfolding Pairs
pairs_nil R = tt

pub pairs_append : {X : Type 0} (R : X → X → Type 0) (xs ys : List X) → Pairs R xs → Pairs R ys → All (λ x. All (R x) ys) xs → Pairs R (xs ++ ys)
unfolding Pairs
pairs_append R [] ys p q across = q
pairs_append R (x ∷ xs) ys p q across =
    (All-append (R x) xs ys p.0 (All-head (λ y. All (R y) ys) x xs across), pairs_append R xs ys p.1 q (All-tail (λ y. All (R y) ys) x xs across))

pub pairs_weaker : {X : Type 0} (R S : X → X → Type 0) → ((x y : X) → R x y → S x y) → (xs : List X) → Pairs R xs → Pairs S xs
unfolding Pairs
pairs_weaker R S each [] p = tt
pairs_weaker R S each (x ∷ xs) p = (All-weaker (R x) (S x) (each x) xs p.0, pairs_weaker R S each xs p.1)

pub pairs_map : {X Y : Type 0} (R : Y → Y → Type 0) (f : X → Y) (xs : List X) → Pairs (λ x y. R (f x) (f y)) xs → Pairs R (map f xs)
unfolding Pairs
pairs_map R f [] p = tt
pairs_map R f (x ∷ xs) p = (All-map (R (f x)) f xs p.0, pairs_map R f xs p.1)

pub pairs_range : (s n : ℕ) → Pairs (λ i j. i < j) (range_with_len s n)
unfolding Pairs
pairs_range s zero = tt
pairs_range s (suc n) = (All-range (λ j. s < j) (s + 1) n (λ i low high. omega arith), pairs_range (s + 1) n)

pub pairs_flat_map : {X Y : Type 0} (S : X → X → Type 0) (R : Y → Y → Type 0) (f : X → List Y) → ((x : X) → Pairs R (f x)) → ((x y : X) → S x y → All (λ a. All (R a) (f y)) (f x)) → (xs : List X) → Pairs S xs → Pairs R (flat_map f xs)
unfolding Pairs
pairs_flat_map S R f each cross [] p = tt
pairs_flat_map S R f each cross (x ∷ xs) p =
    pairs_append R (f x) (flat_map f xs) (each x) (pairs_flat_map S R f each cross xs p.1) (λ k d h. All-flat_map (R (get_or (f x) k d)) f xs (All-weaker (S x) (λ y. All (R (get_or (f x) k d)) (f y)) (λ y s. cross x y s k d h) xs p.0))

pub all_pairs : {X : Type 0} (R : X → X → Type 0) (xs : List X) → Pairs R xs → AllPairs R xs
unfolding Pairs
all_pairs R [] p i j d h l = absurd (omega arith)
all_pairs R (x ∷ xs) p i zero d h l = absurd (omega arith)
all_pairs R (x ∷ xs) p zero (suc j) d h l = p.0 j d (omega arith)
all_pairs R (x ∷ xs) p (suc i) (suc j) d h l = all_pairs R xs p.1 i j d (omega arith) (omega arith)
