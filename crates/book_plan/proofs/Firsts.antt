-- The first of a list's elements that pass a test, one element at a time.
use Rattle.std.proofs.Common.{◌≡◌, ℕ, zero, suc, ◌+◌, ◌-◌, ◌<◌, ◌≤◌, Bool, true, false, List, [], ◌∷◌, ◌++◌, filter, flat_map, reverse, cond, Option, Some, None, refl, ap, sym, ◌∙◌, arith}
use Rattle.std.specs.List.{range_with_len}
use Rattle.std.specs.Option.{IfSome, option_or}
use Rattle.std.proofs.lemmas.List.Elements.{filter-append}
use Rattle.plan_model.specs.Strips.{first_of}
use Rattle.book_plan.specs.Found.{or_found}
use Rattle.book_plan.proofs.Ranges.{ranged, down, down_from}

append_first : (xs : List ℕ) (b : Bool) (x : ℕ) → or_found (first_of xs) b x ≡ first_of (xs ++ cond b (x ∷ []) [])
append_first [] true x = refl
append_first [] false x = refl
append_first (y ∷ ys) b x = refl

filtered_one : (q : ℕ → Bool) (i : ℕ) → filter q (i ∷ []) ≡ cond (q i) (i ∷ []) []
filtered_one q i = refl

-- one more number after some
first_after : (q : ℕ → Bool) (xs : List ℕ) (i : ℕ) (old : Option ℕ) (b : Bool) → b ≡ q i → old ≡ first_of (filter q xs) → or_found old b i ≡ first_of (filter q (xs ++ i ∷ []))
first_after q xs i old b e g =
    ap (λ (o : Option ℕ). or_found o b i) g ∙ ap (λ (c : Bool). or_found (first_of (filter q xs)) c i) e ∙ append_first (filter q xs) (q i) i ∙ ap (λ (ys : List ℕ). first_of (filter q xs ++ ys)) (sym (filtered_one q i)) ∙ ap first_of (sym (filter-append q xs (i ∷ [])))

-- one more number of a range
pub first_more : (q : ℕ → Bool) (i : ℕ) (old : Option ℕ) (b : Bool) → b ≡ q i → old ≡ first_of (filter q (range_with_len 0 i)) → or_found old b i ≡ first_of (filter q (range_with_len 0 (i + 1)))
first_more q i old b e g =
    first_after q (range_with_len 0 i) i old b e g ∙ ap (λ (xs : List ℕ). first_of (filter q xs)) (sym (ranged i))

-- one more number of a range that is counted down
pub first_down : (q : ℕ → Bool) (j n : ℕ) (old new : Option ℕ) (b : Bool) → 0 < j → j ≤ n → b ≡ q (j - 1) → old ≡ first_of (filter q (reverse (range_with_len j (n - j)))) → new ≡ or_found old b (j - 1) → new ≡ first_of (filter q (reverse (range_with_len (j - 1) (n - (j - 1)))))
first_down q j n old new b some few e g h =
    let back : j ≡ (j - 1) + 1 = omega arith in
    let below : j - 1 < n = omega arith in
    h ∙ first_after q (reverse (range_with_len j (n - j))) (j - 1) old b e g ∙ ap (λ (i : ℕ). first_of (filter q (reverse (range_with_len i (n - i)) ++ (j - 1) ∷ []))) back ∙ ap (λ (xs : List ℕ). first_of (filter q xs)) (sym (down (j - 1) n below))

-- of a range whose first number passes, and of one whose first number doesn't
pub first_here : (q : ℕ → Bool) (a n : ℕ) → 0 < n → q a ≡ true → first_of (filter q (range_with_len a n)) ≡ Some a
first_here q a zero some e = absurd (omega arith)
first_here q a (suc n) some e =
    let rest = filter q (range_with_len (a + 1) n) in
    ap (λ (b : Bool). first_of (cond b (a ∷ rest) rest)) e

pub first_later : (q : ℕ → Bool) (a n m : ℕ) → n ≡ suc m → q a ≡ false → first_of (filter q (range_with_len (a + 1) m)) ≡ first_of (filter q (range_with_len a n))
first_later q a n m e f =
    let rest = filter q (range_with_len (a + 1) m) in
    sym (ap (λ (k : ℕ). first_of (filter q (range_with_len a k))) e ∙ ap (λ (b : Bool). first_of (cond b (a ∷ rest) rest)) f)

-- what is found is one of the numbers
pub found_below : (n : ℕ) (old : Option ℕ) (b : Bool) (i : ℕ) → i < n → IfSome old (λ l. l < n) → IfSome (or_found old b i) (λ l. l < n)
found_below n (Some m) b i h k = k
found_below n None true i h k = h
found_below n None false i h k = tt

-- the first of two lists together
first_append : {X : Type 0} (xs ys : List X) → first_of (xs ++ ys) ≡ option_or (first_of xs) (first_of ys)
first_append [] ys = refl
first_append (x ∷ xs) ys = refl

-- one more list, for the numbers of a range that is counted down
pub first_from : {X : Type 0} (f : ℕ → List X) (j n : ℕ) (old new : Option X) → 0 < j → j ≤ n → old ≡ first_of (flat_map f (reverse (range_with_len j (n - j)))) → new ≡ option_or old (first_of (f (j - 1))) → new ≡ first_of (flat_map f (reverse (range_with_len (j - 1) (n - (j - 1)))))
first_from {X = X} f j n old new some few e g =
    g ∙ ap (λ (o : Option X). option_or o (first_of (f (j - 1)))) e ∙ sym (first_append (flat_map f (reverse (range_with_len j (n - j)))) (f (j - 1)))
    ∙ ap first_of (down_from f j n (flat_map f (reverse (range_with_len j (n - j)))) (flat_map f (reverse (range_with_len j (n - j))) ++ f (j - 1)) some few refl refl)
