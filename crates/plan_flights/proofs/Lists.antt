-- Facts on lists: ranges, filters and sums.
use Rattle.std.proofs.Common.{◌≡◌, ℕ, zero, suc, ◌+◌, ◌-◌, ◌<◌, ◌≤◌, Bool, true, false, List, [], ◌∷◌, ◌++◌, map, reverse, length, get_or, Some, None, refl, ap, sym, ◌∙◌, subst, inl, inr, arith, zero-add}
use Rattle.std.proofs.lemmas.Bool.{cases_Bool, cases_eq}
use Rattle.std.proofs.lemmas.List.{length-reverse, get_or-reverse}
use Rattle.std.proofs.lemmas.List.Elements.{All-nil, All-cons, All-head}
use Rattle.std.proofs.lemmas.List.FromFn.{length-range_with_len, get_or-range_with_len}
use Rattle.std.proofs.lemmas.List.Sums.{sum_by-append}
use Rattle.std.specs.List.{All, filter, flat_map, sum_by, range_with_len}
use Rattle.plan_model.specs.Strips.{first_of}

-- ---- ranges
pub All-reverse : {X : Type 0} (P : X → Type 0) (xs : List X) → All P xs → All P (reverse xs)
All-reverse P xs h k d inside =
    let count : length (reverse xs) ≡ length xs = length-reverse xs in
    let below : k < length xs = omega arith in
    subst P (sym (get_or-reverse xs k d below)) (h (length xs - 1 - k) d (omega arith))

-- what is true of each number of a reversed range is true of a number in the range
pub in_reverse : (P : ℕ → Type 0) (s n i : ℕ) → s ≤ i → i < s + n → All P (reverse (range_with_len s n)) → P i
in_reverse P s n i low high all =
    let count : length (range_with_len s n) ≡ n = length-range_with_len s n in
    let whole : length (reverse (range_with_len s n)) ≡ length (range_with_len s n) = length-reverse (range_with_len s n) in
    let place : s + n - 1 - i < length (range_with_len s n) = omega arith in
    let back : length (range_with_len s n) - 1 - (s + n - 1 - i) ≡ i - s = omega arith in
    let turned : get_or (reverse (range_with_len s n)) (s + n - 1 - i) 0 ≡ get_or (range_with_len s n) (length (range_with_len s n) - 1 - (s + n - 1 - i)) 0 = get_or-reverse (range_with_len s n) (s + n - 1 - i) 0 place in
    let inside : i - s < n = omega arith in
    let value : get_or (range_with_len s n) (i - s) 0 ≡ s + (i - s) = get_or-range_with_len s n (i - s) 0 inside in
    let same : s + (i - s) ≡ i = omega arith in
    subst P (turned ∙ ap (λ (j : ℕ). get_or (range_with_len s n) j 0) back ∙ value ∙ same) (all (s + n - 1 - i) 0 (omega arith))

-- ---- each element
pub first_none : {X : Type 0} (xs : List X) → first_of xs ≡ None → xs ≡ []
first_none [] e = refl
first_none (x ∷ xs) e = absurd (cc)

pub first_is : {X : Type 0} (P : X → Type 0) (xs : List X) (x : X) → All P xs → first_of xs ≡ Some x → P x
first_is P [] x h e = absurd (cc)
first_is P (y ∷ xs) x h e =
    let same : y ≡ x = cc in
    subst P same (All-head P y xs h)

append_left : {X : Type 0} (xs ys : List X) → xs ++ ys ≡ [] → xs ≡ []
append_left [] ys e = refl
append_left (x ∷ xs) ys e = absurd (cc)

append_right : {X : Type 0} (xs ys : List X) → xs ++ ys ≡ [] → ys ≡ []
append_right [] ys e = e
append_right (x ∷ xs) ys e = absurd (cc)

pub each_empty : {X Y : Type 0} (f : X → List Y) (xs : List X) → flat_map f xs ≡ [] → All (λ x. f x ≡ []) xs
each_empty f [] e = All-nil (λ x. f x ≡ [])
each_empty f (x ∷ xs) e =
    All-cons (λ y. f y ≡ []) x xs (append_left (f x) (flat_map f xs) e) (each_empty f xs (append_right (f x) (flat_map f xs) e))

pub map_empty : {X Y : Type 0} (f : X → Y) (xs : List X) → map f xs ≡ [] → xs ≡ []
map_empty f [] e = refl
map_empty f (x ∷ xs) e = absurd (cc)

-- ---- filters
pub filter_at_most : {X : Type 0} (p q : X → Bool) (xs : List X) → ((x : X) → p x ≡ true → q x ≡ true) → length (filter p xs) ≤ length (filter q xs)
filter_at_most p q [] h = omega arith
filter_at_most p q (x ∷ xs) h =
    let rest : length (filter p xs) ≤ length (filter q xs) = filter_at_most p q xs h in
    elim (cases_Bool (p x)) [
      | inl t ↦
          let u : q x ≡ true = h x t in
          rw (t, u) (omega arith)
      | inr t ↦
          elim (cases_Bool (q x)) [
            | inl u ↦ rw (t, u) (omega arith)
            | inr u ↦ rw (t, u) rest
          ]
    ]

pub filter_fewer : {X : Type 0} (p q : X → Bool) (xs : List X) (y d : X) (k : ℕ) → ((x : X) → p x ≡ true → q x ≡ true) → k < length xs → get_or xs k d ≡ y → p y ≡ false → q y ≡ true → length (filter p xs) + 1 ≤ length (filter q xs)
filter_fewer p q [] y d k h inside at fails passes = absurd (omega arith)
filter_fewer p q (x ∷ xs) y d zero h inside at fails passes =
    let rest : length (filter p xs) ≤ length (filter q xs) = filter_at_most p q xs h in
    let t : p x ≡ false = ap p at ∙ fails in
    let u : q x ≡ true = ap q at ∙ passes in
    rw (t, u) (omega arith)
filter_fewer p q (x ∷ xs) y d (suc k) h inside at fails passes =
    let rest : length (filter p xs) + 1 ≤ length (filter q xs) = filter_fewer p q xs y d k h (omega arith) at fails passes in
    elim (cases_Bool (p x)) [
      | inl t ↦
          let u : q x ≡ true = h x t in
          rw (t, u) (omega arith)
      | inr t ↦
          elim (cases_Bool (q x)) [
            | inl u ↦ rw (t, u) (omega arith)
            | inr u ↦ rw (t, u) rest
          ]
    ]

-- ---- sums over ranges
sum_cons : {X : Type 0} (g : X → ℕ) (x : X) (xs : List X) → sum_by g (x ∷ xs) ≡ g x + sum_by g xs
sum_cons g x xs = sum_by-append g (x ∷ []) xs ∙ ap (λ (n : ℕ). n + sum_by g xs) (zero-add (g x))

pub sum_at_most : (f g : ℕ → ℕ) (s n : ℕ) → ((i : ℕ) → s ≤ i → i < s + n → f i ≤ g i) → sum_by f (range_with_len s n) ≤ sum_by g (range_with_len s n)
sum_at_most f g s zero h = omega arith
sum_at_most f g s (suc n) h =
    let here : f s ≤ g s = h s (omega arith) (omega arith) in
    let rest : sum_by f (range_with_len (s + 1) n) ≤ sum_by g (range_with_len (s + 1) n) = sum_at_most f g (s + 1) n (λ (i : ℕ) (low : s + 1 ≤ i) (high : i < s + 1 + n). h i (omega arith) (omega arith)) in
    let a : sum_by f (s ∷ range_with_len (s + 1) n) ≡ f s + sum_by f (range_with_len (s + 1) n) = sum_cons f s (range_with_len (s + 1) n) in
    let b : sum_by g (s ∷ range_with_len (s + 1) n) ≡ g s + sum_by g (range_with_len (s + 1) n) = sum_cons g s (range_with_len (s + 1) n) in
    omega (arith, here, rest, a, b)

pub sum_fewer : (f g : ℕ → ℕ) (s n m : ℕ) → ((i : ℕ) → s ≤ i → i < s + n → f i ≤ g i) → s ≤ m → m < s + n → f m + 1 ≤ g m → sum_by f (range_with_len s n) + 1 ≤ sum_by g (range_with_len s n)
sum_fewer f g s zero m h low high less = absurd (omega arith)
sum_fewer f g s (suc n) m h low high less =
    let each : (i : ℕ) → s + 1 ≤ i → i < s + 1 + n → f i ≤ g i = λ (i : ℕ) (low : s + 1 ≤ i) (high : i < s + 1 + n). h i (omega arith) (omega arith) in
    let a : sum_by f (s ∷ range_with_len (s + 1) n) ≡ f s + sum_by f (range_with_len (s + 1) n) = sum_cons f s (range_with_len (s + 1) n) in
    let b : sum_by g (s ∷ range_with_len (s + 1) n) ≡ g s + sum_by g (range_with_len (s + 1) n) = sum_cons g s (range_with_len (s + 1) n) in
    elim (cases_eq s m) [
      | inl e ↦
          let here : f s + 1 ≤ g s = subst (λ (i : ℕ). f i + 1 ≤ g i) (sym e) less in
          let rest : sum_by f (range_with_len (s + 1) n) ≤ sum_by g (range_with_len (s + 1) n) = sum_at_most f g (s + 1) n each in
          omega (arith, here, rest, a, b)
      | inr e ↦
          let here : f s ≤ g s = h s (omega arith) (omega arith) in
          let rest : sum_by f (range_with_len (s + 1) n) + 1 ≤ sum_by g (range_with_len (s + 1) n) = sum_fewer f g (s + 1) n m each (omega arith) (omega arith) less in
          omega (arith, here, rest, a, b)
    ]
