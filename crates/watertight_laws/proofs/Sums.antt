-- Sums over lists.
use Rattle.std.proofs.Common.{◌≡◌, ◌≢◌, ℕ, zero, suc, ◌+◌, ◌*◌, ◌<◌, ◌≤◌, Bool, true, false, cond, List, [], ◌∷◌, map, refl, ap, sym, ◌∙◌, inl, inr, arith}
use Rattle.std.specs.List.{sum_by, flat_map, range_with_len}
use Rattle.std.proofs.lemmas.Bool.{cases_eq, false_from_ne_true, false≢true}
use Rattle.std.proofs.lemmas.List.Sums.{sum_by-append, sum_by-cons}

-- 1 where the test passes, else 0
abbrev pub one_if : Bool → ℕ
one_if b = cond b 1 0

pub sum_map : {A B : Type 0} (f : B → ℕ) (g : A → B) (xs : List A) → sum_by f (map g xs) ≡ sum_by (λ x. f (g x)) xs
sum_map f g [] = refl
sum_map f g (x ∷ xs) =
    sum_by-cons f (g x) (map g xs) ∙ ap (λ (n : ℕ). f (g x) + n) (sum_map f g xs) ∙ sym (sum_by-cons (λ y. f (g y)) x xs)

pub sum_flat_map : {A B : Type 0} (f : B → ℕ) (g : A → List B) (xs : List A) → sum_by f (flat_map g xs) ≡ sum_by (λ x. sum_by f (g x)) xs
sum_flat_map f g [] = refl
sum_flat_map f g (x ∷ xs) =
    sum_by-append f (g x) (flat_map g xs) ∙ ap (λ (n : ℕ). sum_by f (g x) + n) (sum_flat_map f g xs) ∙ sym (sum_by-cons (λ y. sum_by f (g y)) x xs)

pub sum_add : {A : Type 0} (f g : A → ℕ) (xs : List A) → sum_by (λ x. f x + g x) xs ≡ sum_by f xs + sum_by g xs
sum_add f g [] = omega arith
sum_add f g (x ∷ xs) =
    let whole = sum_by-cons (λ y. f y + g y) x xs in
    let first = sum_by-cons f x xs in
    let second = sum_by-cons g x xs in
    let rest = sum_add f g xs in
    omega (arith, whole, first, second, rest)

pub sum_none : {A : Type 0} (xs : List A) → sum_by (λ (x : A). 0) xs ≡ 0
sum_none [] = refl
sum_none (x ∷ xs) = let whole = sum_by-cons (λ y. 0) x xs in let rest = sum_none xs in omega (arith, whole, rest)

-- a sum over two steps at once
pub sum_twos : (f : ℕ → ℕ) (s n : ℕ) → sum_by (λ u. f (2 * u) + f (2 * u + 1)) (range_with_len s n) ≡ sum_by f (range_with_len (2 * s) (2 * n))
sum_twos f s zero = refl
sum_twos f s (suc n) =
    let F : ℕ → ℕ = λ u. f (2 * u) + f (2 * u + 1) in
    let whole : sum_by F (range_with_len s (suc n)) ≡ F s + sum_by F (range_with_len (s + 1) n) = sum_by-cons F s (range_with_len (s + 1) n) in
    let rest = sum_twos f (s + 1) n in
    let next : 2 * (s + 1) ≡ 2 * s + 1 + 1 = omega arith in
    let many : 2 * suc n ≡ suc (suc (2 * n)) = omega arith in
    let second : sum_by f (range_with_len (2 * s + 1) (suc (2 * n))) ≡ f (2 * s + 1) + sum_by f (range_with_len (2 * s + 1 + 1) (2 * n)) = sum_by-cons f (2 * s + 1) (range_with_len (2 * s + 1 + 1) (2 * n)) in
    let first : sum_by f (range_with_len (2 * s) (suc (suc (2 * n)))) ≡ f (2 * s) + sum_by f (range_with_len (2 * s + 1) (suc (2 * n))) = sum_by-cons f (2 * s) (range_with_len (2 * s + 1) (suc (2 * n))) in
    let moved : sum_by f (range_with_len (2 * (s + 1)) (2 * n)) ≡ sum_by f (range_with_len (2 * s + 1 + 1) (2 * n)) = ap (λ m. sum_by f (range_with_len m (2 * n))) next in
    let all : sum_by f (range_with_len (2 * s) (2 * suc n)) ≡ sum_by f (range_with_len (2 * s) (suc (suc (2 * n)))) = ap (λ m. sum_by f (range_with_len (2 * s) m)) many in
    omega (arith, whole, rest, first, second, moved, all)

-- ---- a test that picks one number
none_in_range : (t : ℕ → Bool) (s n : ℕ) → ((u : ℕ) → s ≤ u → u < s + n → t u ≡ false) → sum_by (λ u. one_if (t u)) (range_with_len s n) ≡ 0
none_in_range t s zero h = refl
none_in_range t s (suc n) h =
    let whole = sum_by-cons (λ u. one_if (t u)) s (range_with_len (s + 1) n) in
    let here : one_if (t s) ≡ 0 = ap one_if (h s (omega arith) (omega arith)) in
    let rest = none_in_range t (s + 1) n (λ u low high. h u (omega arith) (omega arith)) in
    omega (arith, whole, here, rest)

one_in_range : (t : ℕ → Bool) (c s n : ℕ) → s ≤ c → c < s + n → t c ≡ true → ((u : ℕ) → u ≢ c → u < s + n → t u ≡ false) → sum_by (λ u. one_if (t u)) (range_with_len s n) ≡ 1
one_in_range t c s zero low high there others = absurd (omega arith)
one_in_range t c s (suc n) low high there others =
    let whole = sum_by-cons (λ u. one_if (t u)) s (range_with_len (s + 1) n) in
    elim (cases_eq s c) [
      | inl e ↦ let here : one_if (t s) ≡ 1 = ap (λ u. one_if (t u)) e ∙ ap one_if there in
          let rest = none_in_range t (s + 1) n (λ u from to. others u (λ same. omega (arith, e, same, from)) (omega arith)) in
          omega (arith, whole, here, rest)
      | inr other ↦ let here : one_if (t s) ≡ 0 = ap one_if (others s other (omega arith)) in
          let rest = one_in_range t c (s + 1) n (omega arith) (omega arith) there (λ u away below. others u away (omega arith)) in
          omega (arith, whole, here, rest)
    ]

-- the test passes only at c, and there where r is true
pub pick : (t : ℕ → Bool) (n c : ℕ) (r : Bool) → ((u : ℕ) → u < n → t u ≡ true → (r ≡ true) × (u ≡ c)) → (r ≡ true → (c < n) × (t c ≡ true)) →
    sum_by (λ u. one_if (t u)) (range_with_len 0 n) ≡ one_if r
pick t n c true only there =
    one_in_range t c 0 n (omega arith) (let low = (there refl).0 in omega (arith, low)) (there refl).1 (λ u away below. false_from_ne_true (t u) (λ yes. away (only u (omega arith) yes).1))
pick t n c false only there =
    none_in_range t 0 n (λ u low high. false_from_ne_true (t u) (λ yes. false≢true (only u (omega arith) yes).0))
