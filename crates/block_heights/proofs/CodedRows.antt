-- The coded columns of a region's rows, one more at a time, and tables that are filled row by row.
use Rattle.std.proofs.Common.{◌≡◌, ℕ, zero, suc, ◌+◌, ◌-◌, ◌<◌, ◌≤◌, Bool, true, false, cond, not, ◌&&◌, ◌==◌, ◌/◌, List, [], ◌∷◌, ◌++◌, length, get_or, set, take, drop, map, filter, ℤ, pos, ◌+ℤ◌, All, sym, refl, ap, ap₂, ◌∙◌, subst, ⊎_elim, arith, append-nil, length-append, get_or-set_same, get_or-set_other}
use Rattle.std.specs.List.{flat_map, range_with_len}
use Rattle.std.proofs.lemmas.Bool.{cases_lt, cases_eq, false≢true}
use Rattle.std.proofs.lemmas.List.{map-id, map-append, take_more, length_push}
use Rattle.std.proofs.lemmas.List.Concat.{flat_map-append}
use Rattle.std.proofs.lemmas.List.FromFn.{filter_of_map_range_with_len_more}
use Rattle.clip_regions.specs.declared.region.Region.{Region}
use Rattle.store_model.specs.Blocks.{is_coded}
use Rattle.clip_regions.specs.FloorDivision.{floor_rem}
use Rattle.clip_regions.proofs.Quotients.{rem_below, quotient_and_rest}
use Rattle.block_heights.specs.Rows.{coded_columns, row_values, table_values, coded_before, IsCodeRow, HasCodes}
use Rattle.rice_residuals.specs.Code.{IsResidual}
use Rattle.std.proofs.lemmas.List.{set_past}
use Rattle.std.proofs.Common.{take-add, get_or-drop, length-drop}
use Rattle.std.specs.Int.{w32}
use Rattle.std.proofs.lemmas.Int.{ints}
use mir.Val.{SFits, to_z, of_z}
use Rattle.std.proofs.lemmas.Int.{to_z-of_z}
use Rattle.std.proofs.lemmas.List.{take_rest}
use Rattle.store_model.proofs.Stores.{range_more}

pub filter_range_more : (p : ℕ → Bool) (n : ℕ) → filter p (range_with_len 0 (n + 1)) ≡ filter p (range_with_len 0 n) ++ cond (p n) (n ∷ []) []
filter_range_more p n =
    ap (filter p) (sym (map-id (range_with_len 0 (n + 1))))
    ∙ filter_of_map_range_with_len_more p (λ k. k) 0 n n (omega arith)
    ∙ ap (λ (xs : List ℕ). filter p xs ++ cond (p n) (n ∷ []) []) (map-id (range_with_len 0 n))

pub flat_range_more : {A : Type 0} (f : ℕ → List A) (n : ℕ) → flat_map f (range_with_len 0 (n + 1)) ≡ flat_map f (range_with_len 0 n) ++ f n
flat_range_more f n =
    ap (flat_map f) (range_more n) ∙ flat_map-append f (range_with_len 0 n) (n ∷ []) ∙ ap (λ (ys : List _). flat_map f (range_with_len 0 n) ++ ys) (append-nil (f n))

-- ---- the coded columns of a row
pub columns_more_coded : (region : Region) (b n : ℕ) → is_coded (region.x0 +ℤ pos n) (region.y0 +ℤ pos b) ≡ true → coded_columns region b (n + 1) ≡ coded_columns region b n ++ n ∷ []
columns_more_coded region b n e =
    filter_range_more (λ a. is_coded (region.x0 +ℤ pos a) (region.y0 +ℤ pos b)) n
    ∙ ap (λ (t : Bool). coded_columns region b n ++ cond t (n ∷ []) []) e

pub columns_more_even : (region : Region) (b n : ℕ) → is_coded (region.x0 +ℤ pos n) (region.y0 +ℤ pos b) ≡ false → coded_columns region b (n + 1) ≡ coded_columns region b n
columns_more_even region b n e =
    filter_range_more (λ a. is_coded (region.x0 +ℤ pos a) (region.y0 +ℤ pos b)) n
    ∙ ap (λ (t : Bool). coded_columns region b n ++ cond t (n ∷ []) []) e
    ∙ append-nil (coded_columns region b n)

pub count_more_coded : (region : Region) (b n : ℕ) → is_coded (region.x0 +ℤ pos n) (region.y0 +ℤ pos b) ≡ true → length (coded_columns region b (n + 1)) ≡ length (coded_columns region b n) + 1
count_more_coded region b n e = ap length (columns_more_coded region b n e) ∙ length_push (coded_columns region b n) n

pub count_more_even : (region : Region) (b n : ℕ) → is_coded (region.x0 +ℤ pos n) (region.y0 +ℤ pos b) ≡ false → length (coded_columns region b (n + 1)) ≡ length (coded_columns region b n)
count_more_even region b n e = ap length (columns_more_even region b n e)

count_grows : (region : Region) (b n : ℕ) → length (coded_columns region b n) ≤ length (coded_columns region b (n + 1))
count_grows region b n =
    let parts = ap length (filter_range_more (λ a. is_coded (region.x0 +ℤ pos a) (region.y0 +ℤ pos b)) n) in
    let whole = length-append (coded_columns region b n) (cond (is_coded (region.x0 +ℤ pos n) (region.y0 +ℤ pos b)) (n ∷ []) []) in
    omega arith

count_up : (region : Region) (b n k : ℕ) → length (coded_columns region b n) ≤ length (coded_columns region b (n + k))
count_up region b n zero = (let e : n + 0 ≡ n = omega arith in rw e (omega arith))
count_up region b n (suc k) =
    let before : length (coded_columns region b n) ≤ length (coded_columns region b (n + k)) = count_up region b n k in
    let e : n + suc k ≡ n + k + 1 = omega arith in
    let more = count_grows region b (n + k) in
    rw e (omega arith)

pub count_mono : (region : Region) (b n m : ℕ) → n ≤ m → length (coded_columns region b n) ≤ length (coded_columns region b m)
count_mono region b n m h =
    let e : n + (m - n) ≡ m = omega arith in
    subst (λ (k : ℕ). length (coded_columns region b n) ≤ length (coded_columns region b k)) e (count_up region b n (m - n))

-- what a filter of a range has is below its end
pub map_filter_same : (f g : ℕ → ℤ) (p : ℕ → Bool) (s n : ℕ) → ((k : ℕ) → s ≤ k → k < s + n → f k ≡ g k) → map f (filter p (range_with_len s n)) ≡ map g (filter p (range_with_len s n))
map_filter_same f g p s zero h = refl
map_filter_same f g p s (suc n) h =
    let rest : map f (filter p (range_with_len (s + 1) n)) ≡ map g (filter p (range_with_len (s + 1) n)) = map_filter_same f g p (s + 1) n (λ k l m. h k (omega arith) (omega arith)) in
    let first : f s ≡ g s = h s (omega arith) (omega arith) in
    elim (p s) as (λ t. map f (cond t (s ∷ filter p (range_with_len (s + 1) n)) (filter p (range_with_len (s + 1) n))) ≡ map g (cond t (s ∷ filter p (range_with_len (s + 1) n)) (filter p (range_with_len (s + 1) n)))) [ true ↦ ap₂ (λ (x : ℤ) (xs : List ℤ). x ∷ xs) first rest | false ↦ rest ]

-- a code more in a row
pub row_more_coded : (region : Region) (b n used : ℕ) (values row : List ℤ) (x : ℤ) → is_coded (region.x0 +ℤ pos n) (region.y0 +ℤ pos b) ≡ true → n < length row → used < length values → x ≡ get_or values used (pos 0) → row_values region b n row ≡ take used values → row_values region b (n + 1) (set row n x) ≡ take (used + 1) values
row_more_coded region b n used values row x coded inside enough e before =
    let p = λ (a : ℕ). is_coded (region.x0 +ℤ pos a) (region.y0 +ℤ pos b) in
    let at = λ (xs : List ℤ) (a : ℕ). get_or xs a (pos 0) in
    let here : at (set row n x) n ≡ x = get_or-set_same row n x (pos 0) inside in
    ap (map (at (set row n x))) (columns_more_coded region b n coded)
    ∙ map-append (at (set row n x)) (coded_columns region b n) (n ∷ [])
    ∙ ap₂ (λ (xs : List ℤ) (y : ℤ). xs ++ y ∷ [])
    (map_filter_same (at (set row n x)) (at row) p 0 n (λ k l m. get_or-set_other row n k x (pos 0) (omega arith)) ∙ before)
    (here ∙ e)
    ∙ sym (take_more values used (pos 0) enough)

pub row_more_even : (region : Region) (b n used : ℕ) (values row : List ℤ) → is_coded (region.x0 +ℤ pos n) (region.y0 +ℤ pos b) ≡ false → row_values region b n row ≡ take used values → row_values region b (n + 1) row ≡ take used values
row_more_even region b n used values row even before = ap (map (λ a. get_or row a (pos 0))) (columns_more_even region b n even) ∙ before

-- a written code leaves the cells without one at 0
pub even_more : (region : Region) (b n : ℕ) (row : List ℤ) (x : ℤ) → is_coded (region.x0 +ℤ pos n) (region.y0 +ℤ pos b) ≡ true → IsCodeRow region b row → IsCodeRow region b (set row n x)
even_more region b n row x coded before = λ a even.
    ⊎_elim
    (λ (same : a ≡ n). absurd (false≢true (sym even ∙ ap (λ (k : ℕ). is_coded (region.x0 +ℤ pos k) (region.y0 +ℤ pos b)) same ∙ coded)))
    (λ (other : a ≡ n → ⊥). get_or-set_other row n a x (pos 0) other ∙ before a even)
    (cases_eq a n)

pub codes_more : (row : List ℤ) (n : ℕ) (x : ℤ) → IsResidual x → HasCodes row → HasCodes (set row n x)
codes_more row n x fits before = λ a.
    ⊎_elim
    (λ (same : a ≡ n).
    ⊎_elim
    (λ (inside : n < length row). subst IsResidual (sym (ap (λ (k : ℕ). get_or (set row n x) k (pos 0)) same ∙ get_or-set_same row n x (pos 0) inside)) fits)
    (λ (past : length row ≤ n). subst IsResidual (sym (ap (λ (xs : List ℤ). get_or xs a (pos 0)) (set_past row n x past))) (before a))
    (cases_lt n (length row)))
    (λ (other : a ≡ n → ⊥). subst IsResidual (sym (get_or-set_other row n a x (pos 0) other)) (before a))
    (cases_eq a n)

-- ---- the rows of a table
pub before_more : (region : Region) (columns n : ℕ) → coded_before region columns (n + 1) ≡ coded_before region columns n + length (coded_columns region n columns)
before_more region columns n =
    ap length (flat_range_more (λ b. coded_columns region b columns) n)
    ∙ length-append (flat_map (λ b. coded_columns region b columns) (range_with_len 0 n)) (coded_columns region n columns)

before_up : (region : Region) (columns n k : ℕ) → coded_before region columns n ≤ coded_before region columns (n + k)
before_up region columns n zero = (let e : n + 0 ≡ n = omega arith in rw e (omega arith))
before_up region columns n (suc k) =
    let before : coded_before region columns n ≤ coded_before region columns (n + k) = before_up region columns n k in
    let e : n + suc k ≡ n + k + 1 = omega arith in
    let more = before_more region columns (n + k) in
    rw e (omega arith)

pub before_mono : (region : Region) (columns n m : ℕ) → n ≤ m → coded_before region columns n ≤ coded_before region columns m
before_mono region columns n m h =
    let e : n + (m - n) ≡ m = omega arith in
    subst (λ (k : ℕ). coded_before region columns n ≤ coded_before region columns k) e (before_up region columns n (m - n))

flat_same : {A : Type 0} (f g : ℕ → List A) (s n : ℕ) → ((k : ℕ) → s ≤ k → k < s + n → f k ≡ g k) → flat_map f (range_with_len s n) ≡ flat_map g (range_with_len s n)
flat_same f g s zero h = refl
flat_same f g s (suc n) h = ap₂ (λ (xs : List _) (ys : List _). xs ++ ys) (h s (omega arith) (omega arith)) (flat_same f g (s + 1) n (λ k l m. h k (omega arith) (omega arith)))

-- one more row of a table
pub table_more : (region : Region) (columns n at used : ℕ) (values row : List ℤ) (table : List (List ℤ)) → n < length table → at + used ≤ length values → row_values region n columns row ≡ take used (drop at values) → table_values region columns n table ≡ take at values → table_values region columns (n + 1) (set table n row) ≡ take (at + used) values
table_more region columns n at used values row table inside enough e before =
    let of = λ (xs : List (List ℤ)) (b : ℕ). row_values region b columns (get_or xs b []) in
    flat_range_more (of (set table n row)) n
    ∙ ap₂ (λ (xs : List ℤ) (ys : List ℤ). xs ++ ys)
    (flat_same (of (set table n row)) (of table) 0 n (λ k l m. ap (row_values region k columns) (get_or-set_other table n k row [] (omega arith))) ∙ before)
    (ap (row_values region n columns) (get_or-set_same table n row [] inside) ∙ e)
    ∙ sym (take-add at used values)

-- what holds of a row by its number holds of each row of a table
pub rows_more : (P : ℕ → List ℤ → Type 0) (n : ℕ) (table : List (List ℤ)) (row : List ℤ) → n < length table → P n row → ((b : ℕ) → P b (get_or table b [])) → (b : ℕ) → P b (get_or (set table n row) b [])
rows_more P n table row inside here before b =
    ⊎_elim
    (λ (same : b ≡ n). subst (λ (k : ℕ). P k (get_or (set table n row) k [])) (sym same) (subst (P n) (sym (get_or-set_same table n row [] inside)) here))
    (λ (other : b ≡ n → ⊥). subst (P b) (sym (get_or-set_other table n b row [] other)) (before b))
    (cases_eq b n)

pub residual_fits : (x : ℤ) → IsResidual x → SFits w32 x
residual_fits x fits =
    let low = fits.0 in
    let high = fits.1 in
    grind (arith, ints)

pub all_residuals_below : (values : List ℤ) (n : ℕ) → All IsResidual values → All IsResidual (drop n values)
all_residuals_below values n all = λ k d inside.
    subst IsResidual (sym (get_or-drop n values k d)) (all (n + k) d (omega (arith, length-drop n values)))

-- a column or row so many after another, both read again
pub read_sum : (x y : ℤ) (n : ℕ) → y ≡ pos n → SFits w32 x → SFits w32 (x +ℤ pos n) → to_z w32 (of_z w32 (to_z w32 (of_z w32 x) +ℤ y)) ≡ x +ℤ pos n
read_sum x y n e fits fits' =
    ap₂ (λ (u v : ℤ). to_z w32 (of_z w32 (u +ℤ v))) (to_z-of_z w32 x fits) e ∙ to_z-of_z w32 (x +ℤ pos n) fits'

pub rest_length : (values : List ℤ) (n : ℕ) → n ≤ length values → length (take (length values - n) (drop n values)) ≡ length values - n
rest_length values n h = ap length (take_rest values n) ∙ length-drop n values

-- ---- how many codes a row has
abbrev coded_at : Region → ℕ → ℕ → Bool
coded_at region b a = is_coded (region.x0 +ℤ pos a) (region.y0 +ℤ pos b)

abbrev one : Bool → ℕ
one t = cond t 1 0

length_of_one : (t : Bool) (n : ℕ) → length (cond t (n ∷ []) []) ≡ one t
length_of_one true n = refl
length_of_one false n = refl

count_one : (region : Region) (b n : ℕ) → length (coded_columns region b (n + 1)) ≡ length (coded_columns region b n) + one (coded_at region b n)
count_one region b n =
    ap length (filter_range_more (coded_at region b) n)
    ∙ length-append (coded_columns region b n) (cond (coded_at region b n) (n ∷ []) [])
    ∙ ap (λ (m : ℕ). length (coded_columns region b n) + m) (length_of_one (coded_at region b n) n)

rem_again : (i x : ℤ) → x ≡ i +ℤ pos 2 → floor_rem x 2 ≡ floor_rem i 2
rem_again i x e =
    let below : floor_rem x 2 < 2 = rem_below x 2 (omega arith) in
    let below' : floor_rem i 2 < 2 = rem_below i 2 (omega arith) in
    let whole = quotient_and_rest x 2 (omega arith) in
    let whole' = quotient_and_rest i 2 (omega arith) in
    omega (arith, ints, below, below', whole, whole', e)

pub coded_again : (region : Region) (b n : ℕ) → coded_at region b (n + 2) ≡ coded_at region b n
unfolding is_coded
coded_again region b n =
    ap (λ (m : ℕ). not ((m == 0) && (floor_rem (region.y0 +ℤ pos b) 2 == 0))) (rem_again (region.x0 +ℤ pos n) (region.x0 +ℤ pos (n + 2)) (omega (arith, ints)))

two_coded : (region : Region) (b n : ℕ) → one (coded_at region b n) + one (coded_at region b (n + 1)) ≡ one (coded_at region b 0) + one (coded_at region b 1)
two_coded region b zero = refl
two_coded region b (suc n) =
    let here : one (coded_at region b (suc n)) ≡ one (coded_at region b (n + 1)) = ap (λ (m : ℕ). one (coded_at region b m)) (omega arith) in
    let next : one (coded_at region b (suc n + 1)) ≡ one (coded_at region b (n + 2)) = ap (λ (m : ℕ). one (coded_at region b m)) (omega arith) in
    let again : one (coded_at region b (n + 2)) ≡ one (coded_at region b n) = ap one (coded_again region b n) in
    let before = two_coded region b n in
    omega (arith, here, next, again, before)

parts_more : (s t : Bool) (n : ℕ) → cond s ((n + 2 + 1) / 2) 0 + cond t ((n + 2) / 2) 0 ≡ (cond s ((n + 1) / 2) 0 + cond t (n / 2) 0) + (one s + one t)
parts_more true true n = omega arith
parts_more true false n = omega arith
parts_more false true n = omega arith
parts_more false false n = omega arith

parts_one : (s t : Bool) → one s ≡ cond s ((1 + 1) / 2) 0 + cond t (1 / 2) 0
parts_one true true = refl
parts_one true false = refl
parts_one false true = refl
parts_one false false = refl

parts_none : (s t : Bool) → 0 ≡ cond s ((0 + 1) / 2) 0 + cond t (0 / 2) 0
parts_none true true = refl
parts_none true false = refl
parts_none false true = refl
parts_none false false = refl

pub count_by_two : (region : Region) (b n : ℕ) → length (coded_columns region b n) ≡ cond (is_coded (region.x0 +ℤ pos 0) (region.y0 +ℤ pos b)) ((n + 1) / 2) 0 + cond (is_coded (region.x0 +ℤ pos 1) (region.y0 +ℤ pos b)) (n / 2) 0
count_by_two region b zero = parts_none (coded_at region b 0) (coded_at region b 1)
count_by_two region b (suc zero) =
    let first = count_one region b 0 in
    let parts = parts_one (coded_at region b 0) (coded_at region b 1) in
    omega (arith, first, parts)
count_by_two region b (suc (suc n)) =
    let before = count_by_two region b n in
    let first = count_one region b n in
    let second = count_one region b (n + 1) in
    let both = two_coded region b n in
    let parts = parts_more (coded_at region b 0) (coded_at region b 1) n in
    let whole : length (coded_columns region b (n + 2)) ≡ length (coded_columns region b (n + 1 + 1)) = ap (λ (m : ℕ). length (coded_columns region b m)) (omega arith) in
    let two : n + 2 ≡ suc (suc n) = omega arith in
    subst (λ (m : ℕ). length (coded_columns region b m) ≡ cond (coded_at region b 0) ((m + 1) / 2) 0 + cond (coded_at region b 1) (m / 2) 0) two
    (omega (arith, before, first, second, both, parts, whole))
