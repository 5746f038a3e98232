-- Rows of eight columns whose second cell has a code: all have one, or every other.
use Rattle.std.proofs.Common.{◌≡◌, ℕ, zero, suc, ◌+◌, ◌<◌, ◌≤◌, Bool, true, false, cond, List, [], ◌∷◌, length, get_or, take, map, filter, ℤ, pos, ◌+ℤ◌, All, sym, refl, ap, ◌∙◌, subst, ⊎_elim, arith}
use Rattle.std.specs.List.{range_with_len}
use Rattle.std.proofs.lemmas.Bool.{cases_lt, false≢true}
use Rattle.std.proofs.lemmas.Int.{ints}
use Rattle.std.proofs.lemmas.List.{get_or_past}
use Rattle.clip_regions.specs.declared.region.Region.{Region}
use Rattle.store_model.specs.Blocks.{is_coded}
use Rattle.rice_residuals.specs.Code.{IsResidual}
use Rattle.block_heights.specs.Rows.{coded_columns, row_values, spread_out, IsCodeRow, HasCodes}
use Rattle.block_heights.proofs.CodedRows.{coded_again}

abbrev coded_at : Region → ℕ → ℕ → Bool
coded_at region b a = is_coded (region.x0 +ℤ pos a) (region.y0 +ℤ pos b)

-- ---- which columns they are
all_coded : (region : Region) (b : ℕ) → coded_at region b 0 ≡ true → coded_at region b 1 ≡ true → (a : ℕ) → coded_at region b a ≡ true
all_coded region b e f zero = e
all_coded region b e f (suc zero) = f
all_coded region b e f (suc (suc a)) =
    let two : suc (suc a) ≡ a + 2 = omega arith in
    ap (λ (n : ℕ). coded_at region b n) two ∙ coded_again region b a ∙ all_coded region b e f a

kept : (p : ℕ → Bool) (x : ℕ) (xs : List ℕ) → p x ≡ true → filter p (x ∷ xs) ≡ x ∷ filter p xs
kept p x xs e = ap (λ (t : Bool). cond t (x ∷ filter p xs) (filter p xs)) e

left_out : (p : ℕ → Bool) (x : ℕ) (xs : List ℕ) → p x ≡ false → filter p (x ∷ xs) ≡ filter p xs
left_out p x xs e = ap (λ (t : Bool). cond t (x ∷ filter p xs) (filter p xs)) e

all_kept : (p : ℕ → Bool) (xs : List ℕ) → ((x : ℕ) → p x ≡ true) → filter p xs ≡ xs
all_kept p [] h = refl
all_kept p (x ∷ xs) h = kept p x xs (h x) ∙ ap (λ (ys : List ℕ). x ∷ ys) (all_kept p xs h)

two_of : (p : ℕ → Bool) (x y : ℕ) (xs ys : List ℕ) → p x ≡ false → p y ≡ true → filter p xs ≡ ys → filter p (x ∷ y ∷ xs) ≡ y ∷ ys
two_of p x y xs ys e f rest = left_out p x (y ∷ xs) e ∙ kept p y xs f ∙ ap (λ (zs : List ℕ). y ∷ zs) rest

full_columns : (region : Region) (b : ℕ) → coded_at region b 0 ≡ true → coded_at region b 1 ≡ true → coded_columns region b 8 ≡ range_with_len 0 8
full_columns region b e f = all_kept (coded_at region b) (range_with_len 0 8) (all_coded region b e f)

half_columns : (region : Region) (b : ℕ) → coded_at region b 0 ≡ false → coded_at region b 1 ≡ true → coded_columns region b 8 ≡ 1 ∷ 3 ∷ 5 ∷ 7 ∷ []
half_columns region b e0 e1 =
    let p = coded_at region b in
    let e2 : coded_at region b 2 ≡ false = coded_again region b 0 ∙ e0 in
    let e3 : coded_at region b 3 ≡ true = coded_again region b 1 ∙ e1 in
    let e4 : coded_at region b 4 ≡ false = coded_again region b 2 ∙ e2 in
    let e5 : coded_at region b 5 ≡ true = coded_again region b 3 ∙ e3 in
    let e6 : coded_at region b 6 ≡ false = coded_again region b 4 ∙ e4 in
    let e7 : coded_at region b 7 ≡ true = coded_again region b 5 ∙ e5 in
    two_of p 0 1 (range_with_len 2 6) (3 ∷ 5 ∷ 7 ∷ []) e0 e1
    (two_of p 2 3 (range_with_len 4 4) (5 ∷ 7 ∷ []) e2 e3
    (two_of p 4 5 (range_with_len 6 2) (7 ∷ []) e4 e5
    (two_of p 6 7 [] [] e6 e7 refl)))

-- ---- what stands there
eight_of : (xs : List ℤ) → length xs ≡ 8 → map (λ a. get_or xs a (pos 0)) (range_with_len 0 8) ≡ xs
eight_of (a ∷ b ∷ c ∷ d ∷ e ∷ f ∷ g ∷ h ∷ []) eight = refl
eight_of xs eight = absurd (omega arith)

four_of : (xs : List ℤ) → 4 ≤ length xs → get_or xs 0 (pos 0) ∷ get_or xs 1 (pos 0) ∷ get_or xs 2 (pos 0) ∷ get_or xs 3 (pos 0) ∷ [] ≡ take 4 xs
four_of (a ∷ b ∷ c ∷ d ∷ xs) enough = refl
four_of xs enough = absurd (omega arith)

zero_fits : IsResidual (pos 0)
zero_fits = (omega (arith, ints), omega (arith, ints))

pub codes_of_all : (xs : List ℤ) → All IsResidual xs → HasCodes xs
codes_of_all xs all = λ a.
    ⊎_elim
    (λ (inside : a < length xs). all a (pos 0) inside)
    (λ (past : length xs ≤ a). subst IsResidual (sym (get_or_past xs a (pos 0) past)) zero_fits)
    (cases_lt a (length xs))

-- ---- a row in which all cells have codes
pub full_used : (region : Region) (b : ℕ) → coded_at region b 0 ≡ true → coded_at region b 1 ≡ true → length (coded_columns region b 8) ≡ 8
full_used region b e f = ap length (full_columns region b e f)

pub full_values : (region : Region) (b : ℕ) (row : List ℤ) → coded_at region b 0 ≡ true → coded_at region b 1 ≡ true → length row ≡ 8 → row_values region b 8 row ≡ row
full_values region b row e f eight =
    ap (map (λ a. get_or row a (pos 0))) (full_columns region b e f) ∙ eight_of row eight

pub full_even : (region : Region) (b : ℕ) (row : List ℤ) → coded_at region b 0 ≡ true → coded_at region b 1 ≡ true → IsCodeRow region b row
full_even region b row e f = λ a even. absurd (false≢true (sym even ∙ all_coded region b e f a))

-- ---- a row in which every other cell has one
pub half_used : (region : Region) (b : ℕ) → coded_at region b 0 ≡ false → coded_at region b 1 ≡ true → length (coded_columns region b 8) ≡ 4
half_used region b e f = ap length (half_columns region b e f)

pub half_values : (region : Region) (b : ℕ) (values : List ℤ) → coded_at region b 0 ≡ false → coded_at region b 1 ≡ true → 4 ≤ length values → row_values region b 8 (spread_out values) ≡ take 4 values
half_values region b values e f enough =
    ap (map (λ a. get_or (spread_out values) a (pos 0))) (half_columns region b e f) ∙ four_of values enough

even_zero : (region : Region) (b : ℕ) (values : List ℤ) → coded_at region b 1 ≡ true → (a : ℕ) → coded_at region b a ≡ false → get_or (spread_out values) a (pos 0) ≡ pos 0
even_zero region b values f zero even = refl
even_zero region b values f (suc zero) even = absurd (false≢true (sym even ∙ f))
even_zero region b values f (suc (suc zero)) even = refl
even_zero region b values f (suc (suc (suc zero))) even = absurd (false≢true (sym even ∙ coded_again region b 1 ∙ f))
even_zero region b values f (suc (suc (suc (suc zero)))) even = refl
even_zero region b values f (suc (suc (suc (suc (suc zero))))) even = absurd (false≢true (sym even ∙ coded_again region b 3 ∙ coded_again region b 1 ∙ f))
even_zero region b values f (suc (suc (suc (suc (suc (suc zero)))))) even = refl
even_zero region b values f (suc (suc (suc (suc (suc (suc (suc zero))))))) even = absurd (false≢true (sym even ∙ coded_again region b 5 ∙ coded_again region b 3 ∙ coded_again region b 1 ∙ f))
even_zero region b values f (suc (suc (suc (suc (suc (suc (suc (suc a)))))))) even = refl

pub half_even : (region : Region) (b : ℕ) (values : List ℤ) → coded_at region b 1 ≡ true → IsCodeRow region b (spread_out values)
half_even region b values f = λ a even. even_zero region b values f a even

pub half_codes : (values : List ℤ) → 4 ≤ length values → All IsResidual values → HasCodes (spread_out values)
half_codes values enough all zero = zero_fits
half_codes values enough all (suc zero) = all 0 (pos 0) (omega arith)
half_codes values enough all (suc (suc zero)) = zero_fits
half_codes values enough all (suc (suc (suc zero))) = all 1 (pos 0) (omega arith)
half_codes values enough all (suc (suc (suc (suc zero)))) = zero_fits
half_codes values enough all (suc (suc (suc (suc (suc zero))))) = all 2 (pos 0) (omega arith)
half_codes values enough all (suc (suc (suc (suc (suc (suc zero)))))) = zero_fits
half_codes values enough all (suc (suc (suc (suc (suc (suc (suc zero))))))) = all 3 (pos 0) (omega arith)
half_codes values enough all (suc (suc (suc (suc (suc (suc (suc (suc a)))))))) = zero_fits
