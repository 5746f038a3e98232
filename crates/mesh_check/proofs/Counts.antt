-- How often a number stands in a list.
use Rattle.std.proofs.Common.{◌≡◌, ℕ, suc, ◌+◌, ◌<◌, Bool, true, false, cond, nat_eq, Decides, List, [], ◌∷◌, ◌++◌, length, take, drop, get_or, refl, sym, ap, ◌∙◌, arith}
use Rattle.std.specs.List.{count_by}
use Rattle.std.specs.List.Sorted.{IsPermutation}
use Rattle.std.proofs.lemmas.Bool.Decides.{Decides-eqb}
use Rattle.std.proofs.lemmas.List.{take-append-drop}
use Rattle.std.proofs.lemmas.List.Sums.{sum_by-append}
use Rattle.std.proofs.lemmas.List.Sorted.{sum_by-IsPermutation}

-- how often a number stands there
abbrev pub times : ℕ → List ℕ → ℕ
times n xs = count_by (λ x. nat_eq x n) xs

pub times_append : (n : ℕ) (xs ys : List ℕ) → times n (xs ++ ys) ≡ times n xs + times n ys
times_append n xs ys = sum_by-append (λ x. cond (nat_eq x n) 1 0) xs ys

pub times_permutation : (n : ℕ) (xs ys : List ℕ) → IsPermutation xs ys → times n ys ≡ times n xs
times_permutation n xs ys h = sum_by-IsPermutation (λ x. cond (nat_eq x n) 1 0) xs ys h

pub times_split : (n i : ℕ) (xs : List ℕ) → times n xs ≡ times n (take i xs) + times n (drop i xs)
times_split n i xs = ap (times n) (sym (take-append-drop i xs)) ∙ times_append n (take i xs) (drop i xs)

unequal : (b : Bool) (x y : ℕ) → Decides b (x ≡ y) → (x ≡ y → ⊥) → b ≡ false
unequal true x y d other = absurd (other (d.0 refl))
unequal false x y d other = refl

pub no_test : (x n : ℕ) → (x ≡ n → ⊥) → nat_eq x n ≡ false
no_test x n other = unequal (nat_eq x n) x n (Decides-eqb x n) other

-- a number that isn't there
pub times_none : (n : ℕ) (xs : List ℕ) → ((k : ℕ) → k < length xs → get_or xs k 0 ≡ n → ⊥) → times n xs ≡ 0
times_none n [] other = refl
times_none n (x ∷ xs) other =
    let first = no_test x n (other 0 (omega arith)) in
    let more = times_none n xs (λ k h. other (suc k) (omega arith)) in
    rw first more

abbrev one : Bool → ℕ
one t = cond t 1 0

zero_more : (n : ℕ) → 0 + n ≡ n
zero_more n = omega arith

-- one element more
pub count_cons : {A : Type 0} (p : A → Bool) (x : A) (xs : List A) → count_by p (x ∷ xs) ≡ cond (p x) 1 0 + count_by p xs
count_cons p x xs = sum_by-append (λ x. cond (p x) 1 0) (x ∷ []) xs ∙ ap (λ (n : ℕ). n + count_by p xs) (zero_more (cond (p x) 1 0))

pub three_more : (n a b c : ℕ) (rest : List ℕ) (x y z : Bool) (count : ℕ) → nat_eq a n ≡ x → nat_eq b n ≡ y → nat_eq c n ≡ z → times n rest ≡ count →
    times n (a ∷ b ∷ c ∷ rest) ≡ cond x 1 0 + (cond y 1 0 + (cond z 1 0 + count))
three_more n a b c rest x y z count first second third more =
    let test : ℕ → Bool = λ x. nat_eq x n in
    let first_is = count_cons test a (b ∷ c ∷ rest) in
    let two = count_cons test b (c ∷ rest) in
    let three = count_cons test c rest in
    let fa : ◌≡◌ {A = ℕ} (cond (nat_eq a n) 1 0) (cond x 1 0) = ap (λ (t : Bool). one t) first in
    let fb : ◌≡◌ {A = ℕ} (cond (nat_eq b n) 1 0) (cond y 1 0) = ap (λ (t : Bool). one t) second in
    let fc : ◌≡◌ {A = ℕ} (cond (nat_eq c n) 1 0) (cond z 1 0) = ap (λ (t : Bool). one t) third in
    omega (arith, first_is, two, three, fa, fb, fc, more)
