-- The first pair that passes a test.
use Rattle.std.proofs.Common.{◌≡◌, ◌⊎◌, inl, inr, ℕ, zero, suc, ◌+◌, ◌-◌, ◌<◌, ◌≤◌, Bool, true, false, List, [], ◌++◌, map, Some, None, refl, sym, ap, ◌∙◌, subst, arith}
use Rattle.std.specs.List.{filter, flat_map, range_with_len}
use Rattle.std.proofs.lemmas.Bool.{cases_lt}
use Rattle.std.proofs.lemmas.List.Elements.{filter-append}
use Rattle.mesh_check.specs.Verdict.{first_of, pairs, pairs_from}

-- a row of pairs none of which passes
row_none : (test : ℕ × ℕ → Bool) (a t n : ℕ) → ((b : ℕ) → t ≤ b → b < t + n → test (a, b) ≡ false) → filter test (map (λ (b : ℕ). (a, b)) (range_with_len t n)) ≡ []
row_none test a t zero fail = refl
row_none test a t (suc n) fail =
    let here = fail t (omega arith) (omega arith) in
    let more = row_none test a (t + 1) n (λ b low high. fail b (omega arith) (omega arith)) in
    rw here more

-- a row whose first pair that passes is this one
row_by : (test : ℕ × ℕ → Bool) (a b t n : ℕ) (rest : List (ℕ × ℕ)) → t ≤ b → test (a, b) ≡ true → ((c : ℕ) → t ≤ c → c < b → test (a, c) ≡ false) →
    (t < b → first_of (filter test (map (λ (b : ℕ). (a, b)) (range_with_len (t + 1) n)) ++ rest) ≡ Some (a, b)) →
    (t < b) ⊎ (b ≤ t) → first_of (filter test (map (λ (b : ℕ). (a, b)) (range_with_len t (suc n))) ++ rest) ≡ Some (a, b)
row_by test a b t n rest low pass fail next (inl less) = let here = fail t (omega arith) less in rw here (next less)
row_by test a b t n rest low pass fail next (inr more) =
    let same : b ≡ t = omega arith in
    let here : test (a, t) ≡ true = subst (λ (c : ℕ). test (a, c) ≡ true) same pass in
    rw here (ap (λ (c : ℕ). Some (a, c)) (sym same))

row_some : (test : ℕ × ℕ → Bool) (a b t n : ℕ) (rest : List (ℕ × ℕ)) → t ≤ b → b < t + n → test (a, b) ≡ true → ((c : ℕ) → t ≤ c → c < b → test (a, c) ≡ false) →
    first_of (filter test (map (λ (b : ℕ). (a, b)) (range_with_len t n)) ++ rest) ≡ Some (a, b)
row_some test a b t zero rest low high pass fail = absurd (omega arith)
row_some test a b t (suc n) rest low high pass fail =
    row_by test a b t n rest low pass fail
    (λ less. row_some test a b (t + 1) n rest (omega arith) (omega arith) pass (λ c from to. fail c (omega arith) to)) (cases_lt t b)

-- rows none of whose pairs passes
rows_none : (test : ℕ × ℕ → Bool) (count s n : ℕ) → ((a b : ℕ) → s ≤ a → a < s + n → a < b → b < count → test (a, b) ≡ false) →
    filter test (flat_map (pairs_from count) (range_with_len s n)) ≡ []
rows_none test count s zero fail = refl
rows_none test count s (suc n) fail =
    let row = row_none test s (s + 1) (count - (s + 1)) (λ b low high. fail s b (omega arith) (omega arith) (omega arith) (omega arith)) in
    let more = rows_none test count (s + 1) n (λ a b low high rise below. fail a b (omega arith) (omega arith) rise below) in
    filter-append test (pairs_from count s) (flat_map (pairs_from count) (range_with_len (s + 1) n)) ∙ rw (row, more) refl

-- rows whose first pair that passes is this one
rows_by : (test : ℕ × ℕ → Bool) (count a b s n : ℕ) → s ≤ a → a < b → b < count → test (a, b) ≡ true →
    ((c d : ℕ) → c < d → d < count → (c < a) ⊎ ((c ≡ a) × (d < b)) → test (c, d) ≡ false) →
    (s < a → first_of (filter test (flat_map (pairs_from count) (range_with_len (s + 1) n))) ≡ Some (a, b)) → (s < a) ⊎ (a ≤ s) →
    first_of (filter test (flat_map (pairs_from count) (range_with_len s (suc n)))) ≡ Some (a, b)
rows_by test count a b s n low rise below pass fail next (inl less) =
    let row = row_none test s (s + 1) (count - (s + 1)) (λ d from to. fail s d (omega arith) (omega arith) (inl less)) in
    ap first_of (filter-append test (pairs_from count s) (flat_map (pairs_from count) (range_with_len (s + 1) n))) ∙ rw row (next less)
rows_by test count a b s n low rise below pass fail next (inr more) =
    let same : a ≡ s = omega arith in
    let here : test (s, b) ≡ true = subst (λ (c : ℕ). test (c, b) ≡ true) same pass in
    ap first_of (filter-append test (pairs_from count s) (flat_map (pairs_from count) (range_with_len (s + 1) n)))
    ∙ row_some test s b (s + 1) (count - (s + 1)) (filter test (flat_map (pairs_from count) (range_with_len (s + 1) n))) (omega arith) (omega arith) here
    (λ d from to. fail s d (omega arith) (omega arith) (inr (sym same, to)))
    ∙ ap (λ (c : ℕ). Some (c, b)) (sym same)

rows_some : (test : ℕ × ℕ → Bool) (count a b s n : ℕ) → s ≤ a → a < s + n → a < b → b < count → test (a, b) ≡ true →
    ((c d : ℕ) → c < d → d < count → (c < a) ⊎ ((c ≡ a) × (d < b)) → test (c, d) ≡ false) →
    first_of (filter test (flat_map (pairs_from count) (range_with_len s n))) ≡ Some (a, b)
rows_some test count a b s zero low high rise below pass fail = absurd (omega arith)
rows_some test count a b s (suc n) low high rise below pass fail =
    rows_by test count a b s n low rise below pass fail
    (λ less. rows_some test count a b (s + 1) n (omega arith) (omega arith) rise below pass fail) (cases_lt s a)

pub none_passes : (test : ℕ × ℕ → Bool) (count : ℕ) → ((a b : ℕ) → a < b → b < count → test (a, b) ≡ false) → first_of (filter test (pairs count)) ≡ None
unfolding pairs
none_passes test count fail = ap first_of (rows_none test count 0 count (λ a b low high rise below. fail a b rise below))

pub first_passes : (test : ℕ × ℕ → Bool) (count a b : ℕ) → a < b → b < count → test (a, b) ≡ true →
    ((c d : ℕ) → c < d → d < count → (c < a) ⊎ ((c ≡ a) × (d < b)) → test (c, d) ≡ false) → first_of (filter test (pairs count)) ≡ Some (a, b)
unfolding pairs
first_passes test count a b rise below pass fail = rows_some test count a b 0 count (omega arith) (omega arith) rise below pass fail
