-- What is true of all cells of a region, as a list and cell by cell.
use Rattle.std.proofs.Common.{◌≡◌, ℕ, ◌<◌, Bool, true, cond, List, [], ◌∷◌, ℤ, pos, ◌+ℤ◌, ◌≤ℤ◌, get_or, map, sym, subst, ◌∙◌, inl, inr, arith}
use Rattle.std.specs.List.{All, flat_map, filter, range_with_len}
use Rattle.std.specs.Int.{int_gap}
use Rattle.std.proofs.lemmas.Int.{ints}
use Rattle.std.proofs.lemmas.Bool.{cases_Bool, true≢false}
use Rattle.std.proofs.lemmas.List.Elements.{All-nil, All-cons, All-head, All-tail, All-append, All-map}
use Rattle.std.proofs.lemmas.List.FromFn.{length-range_with_len, get_or-range_with_len, length-map-range_with_len, get_or-map-range_with_len}
use Rattle.clip_regions.specs.declared.region.Region.{Region}
use Rattle.clip_regions.specs.Regions.{columns, rows, cells, numbers_from}
use Rattle.clip_regions.proofs.Gaps.{gap_by}
use Rattle.mesh_model.proofs.Whole.{all_of_map, all_of_flat_map}
use Rattle.clip_regions.proofs.Cells.{Lies}

-- ---- all of some lists
pub all_flat_map : {A B : Type 0} (P : B → Type 0) (f : A → List B) (xs : List A) → All (λ x. All P (f x)) xs → All P (flat_map f xs)
all_flat_map P f [] h = All-nil P
all_flat_map P f (x ∷ xs) h =
    All-append P (f x) (flat_map f xs) (All-head (λ y. All P (f y)) x xs h)
    (all_flat_map P f xs (All-tail (λ y. All P (f y)) x xs h))

-- what is true of each element that passes is true of the kept ones, and the other way round
pub all_passing : {A : Type 0} (P : A → Type 0) (test : A → Bool) (xs : List A) → All P (filter test xs) → All (λ x. test x ≡ true → P x) xs
all_passing P test [] h = All-nil (λ x. test x ≡ true → P x)
all_passing P test (x ∷ xs) h =
    elim (cases_Bool (test x)) [
      | inl e ↦ let kept : All P (x ∷ filter test xs) = subst (λ (b : Bool). All P (cond b (x ∷ filter test xs) (filter test xs))) e h in All-cons (λ y. test y ≡ true → P y) x xs (λ _. All-head P x (filter test xs) kept) (all_passing P test xs (All-tail P x (filter test xs) kept))
      | inr e ↦ let passed : All P (filter test xs) = subst (λ (b : Bool). All P (cond b (x ∷ filter test xs) (filter test xs))) e h in All-cons (λ y. test y ≡ true → P y) x xs (λ yes. absurd (true≢false (sym yes ∙ e))) (all_passing P test xs passed)
    ]

pub all_kept : {A : Type 0} (P : A → Type 0) (test : A → Bool) (xs : List A) → All (λ x. test x ≡ true → P x) xs → All P (filter test xs)
all_kept P test [] h = All-nil P
all_kept P test (x ∷ xs) h =
    let rest : All P (filter test xs) = all_kept P test xs (All-tail (λ y. test y ≡ true → P y) x xs h) in
    elim (cases_Bool (test x)) [
      | inl e ↦ subst (λ (b : Bool). All P (cond b (x ∷ filter test xs) (filter test xs))) (sym e) (All-cons P x (filter test xs) (All-head (λ y. test y ≡ true → P y) x xs h e) rest)
      | inr e ↦ subst (λ (b : Bool). All P (cond b (x ∷ filter test xs) (filter test xs))) (sym e) rest
    ]

-- ---- all numbers of a range
all_numbers : (P : ℤ → Type 0) (a : ℤ) (n : ℕ) → ((u : ℕ) → u < n → P (a +ℤ pos u)) → All P (numbers_from a n)
all_numbers P a n h = All-map P (λ i. a +ℤ pos i) (range_with_len 0 n) each
  where
    each : All (λ i. P (a +ℤ pos i)) (range_with_len 0 n)
    each k d low =
        let below : k < n = omega (arith, length-range_with_len 0 n) in
        let place : get_or (range_with_len 0 n) k d ≡ k = get_or-range_with_len 0 n k d below ∙ (omega arith) in
        subst (λ u. P (a +ℤ pos u)) (sym place) (h k below)

number_of_all : (P : ℤ → Type 0) (a : ℤ) (n u : ℕ) → u < n → All P (numbers_from a n) → P (a +ℤ pos u)
number_of_all P a n u low h =
    subst P (get_or-map-range_with_len (λ i. a +ℤ pos i) 0 n u u a low (omega arith))
    (h u a (omega (arith, length-map-range_with_len (λ i. a +ℤ pos i) 0 n)))

-- the numbers between two ends
pub all_between : (P : ℤ → Type 0) (a b : ℤ) → ((i : ℤ) → a ≤ℤ i → i ≤ℤ b → P i) → All P (numbers_from a (int_gap a (b +ℤ pos 1)))
all_between P a b h =
    all_numbers P a (int_gap a (b +ℤ pos 1)) (λ u low. h (a +ℤ pos u) (omega (arith, ints)) (reached u low))
  where
    reached : (u : ℕ) → u < int_gap a (b +ℤ pos 1) → (a +ℤ pos u) ≤ℤ b
    reached u low = let gap = gap_by a (b +ℤ pos 1) in omega (arith, ints)

between_of_all : (P : ℤ → Type 0) (a b i : ℤ) → a ≤ℤ i → i ≤ℤ b → All P (numbers_from a (int_gap a (b +ℤ pos 1))) → P i
between_of_all P a b i low high h =
    let whole = gap_by a (b +ℤ pos 1) in
    let part = gap_by a i in
    let below : int_gap a i < int_gap a (b +ℤ pos 1) = omega (arith, ints) in
    let at : a +ℤ pos (int_gap a i) ≡ i = omega (arith, ints) in
    subst P at (number_of_all P a (int_gap a (b +ℤ pos 1)) (int_gap a i) below h)

-- ---- all cells of a region
pub all_cells : (P : ℤ × ℤ → Type 0) (r : Region) → ((i j : ℤ) → Lies r i j → P (i, j)) → All P (cells r)
unfolding columns rows
all_cells P r h =
    all_flat_map P (λ j. map (λ i. (i, j)) (numbers_from r.x0 (columns r))) (numbers_from r.y0 (rows r)) each
  where
    each : All (λ j. All P (map (λ i. (i, j)) (numbers_from r.x0 (columns r)))) (numbers_from r.y0 (rows r))
    each =
        all_between (λ j. All P (map (λ i. (i, j)) (numbers_from r.x0 (columns r)))) r.y0 r.y1 (λ j north south.
        All-map P (λ i. (i, j)) (numbers_from r.x0 (columns r)) (all_between (λ i. P (i, j)) r.x0 r.x1 (λ i west east.
        h i j (record { west = west; east = east; north = north; south = south }))))

pub cell_of_all : (P : ℤ × ℤ → Type 0) (r : Region) → All P (cells r) → (i j : ℤ) → Lies r i j → P (i, j)
unfolding columns rows
cell_of_all P r h i j cell =
    let rows_hold = all_of_flat_map P (λ j. map (λ i. (i, j)) (numbers_from r.x0 (columns r))) (numbers_from r.y0 (rows r)) h in
    let row = between_of_all (λ j. All P (map (λ i. (i, j)) (numbers_from r.x0 (columns r)))) r.y0 r.y1 j cell.north cell.south rows_hold in
    between_of_all (λ i. P (i, j)) r.x0 r.x1 i cell.west cell.east (all_of_map P (λ i. (i, j)) (numbers_from r.x0 (columns r)) row)
