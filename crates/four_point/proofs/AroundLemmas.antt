-- The heights of a patch that was filled from a level's heights, and that predictions depend on them alone.
use Rattle.std.proofs.Common.{◌≡◌, ℕ, zero, suc, ℤ, pos, negsuc, nat_abs, ◌<◌, ◌≤◌, ◌+ℤ◌, ◌-ℤ◌, ◌*ℤ◌, ◌≤ℤ◌, List, [], ◌∷◌, get_or, sym, ap, ◌∙◌, refl, arith}
use Rattle.std.specs.Int.{w16, w32}
use Rattle.std.proofs.lemmas.Int.{ints, to_z-of_z}
use mathlib.Core.Path.{ap₂}
use mir.Val.{SFits, to_z, of_z}
use lib.Signed.{mag}
use Rattle.clip_regions.specs.FloorDivision.{floor_div, floor_rem}
use Rattle.four_point.specs.Prediction.{weighted, row_sum, column_sum, square_sum, predicted, prediction}
use Rattle.four_point.specs.Patches.{IsPlace, IsOfBlock, patch_height}
use Rattle.four_point.specs.declared.patch.Patch.{Patch}
use Rattle.four_point.proofs.SumLemmas.{height_inside}

-- what holds of seven things holds of each of their list
pub of_seven : {A : Type 0} (P : ℕ → A → Type 0) (p0 p1 p2 p3 p4 p5 p6 d : A) → P 0 p0 → P 1 p1 → P 2 p2 → P 3 p3 → P 4 p4 → P 5 p5 → P 6 p6 → (n : ℕ) → n < 7 → P n (get_or (p0 ∷ p1 ∷ p2 ∷ p3 ∷ p4 ∷ p5 ∷ p6 ∷ []) n d)
of_seven P p0 p1 p2 p3 p4 p5 p6 d h0 h1 h2 h3 h4 h5 h6 zero l = h0
of_seven P p0 p1 p2 p3 p4 p5 p6 d h0 h1 h2 h3 h4 h5 h6 (suc zero) l = h1
of_seven P p0 p1 p2 p3 p4 p5 p6 d h0 h1 h2 h3 h4 h5 h6 (suc (suc zero)) l = h2
of_seven P p0 p1 p2 p3 p4 p5 p6 d h0 h1 h2 h3 h4 h5 h6 (suc (suc (suc zero))) l = h3
of_seven P p0 p1 p2 p3 p4 p5 p6 d h0 h1 h2 h3 h4 h5 h6 (suc (suc (suc (suc zero)))) l = h4
of_seven P p0 p1 p2 p3 p4 p5 p6 d h0 h1 h2 h3 h4 h5 h6 (suc (suc (suc (suc (suc zero))))) l = h5
of_seven P p0 p1 p2 p3 p4 p5 p6 d h0 h1 h2 h3 h4 h5 h6 (suc (suc (suc (suc (suc (suc zero)))))) l = h6
of_seven P p0 p1 p2 p3 p4 p5 p6 d h0 h1 h2 h3 h4 h5 h6 (suc (suc (suc (suc (suc (suc (suc n))))))) l = absurd (omega arith)

-- a place so many after another, both read again
pub read_after : (z : ℤ) (k : ℕ) → SFits w32 z → SFits w32 (z +ℤ pos k) → to_z w32 (of_z w32 (to_z w32 (of_z w32 z) +ℤ pos k)) ≡ z +ℤ pos k
read_after z k fits fits' = ap (λ (x : ℤ). to_z w32 (of_z w32 (x +ℤ pos k))) (to_z-of_z w32 z fits) ∙ to_z-of_z w32 (z +ℤ pos k) fits'

pub place_fits : (z : ℤ) (k : ℕ) → k ≤ 6 → IsPlace z → IsPlace (z +ℤ pos 6) → SFits w32 (z +ℤ pos k)
place_fits z k few low high =
    let l = low.low in
    let h = high.high in
    grind (arith, ints)

pub place_itself : (z : ℤ) → IsPlace z → SFits w32 z
place_itself z p =
    let l = p.low in
    let h = p.high in
    grind (arith, ints)

-- a height that was read k columns after the first
pub height_after : (H : ℤ → ℤ → ℤ) (i0 b r : ℤ) (k : ℕ) → k ≤ 6 → IsPlace i0 → IsPlace (i0 +ℤ pos 6) → IsPlace b → mag r < 32768 → r ≡ H (to_z w32 (of_z w32 (to_z w32 (of_z w32 i0) +ℤ pos k))) (to_z w32 (of_z w32 b)) → to_z w16 (of_z w16 r) ≡ H (i0 +ℤ pos k) b
height_after H i0 b r k few low high row size e =
    let r_fits : SFits w16 r = record { sfits = size } in
    to_z-of_z w16 r r_fits
    ∙ e
    ∙ ap₂ H (read_after i0 k (place_itself i0 low) (place_fits i0 k few low high)) (to_z-of_z w32 b (place_itself b row))

pub height_first : (H : ℤ → ℤ → ℤ) (i0 b r : ℤ) → IsPlace i0 → IsPlace b → mag r < 32768 → r ≡ H (to_z w32 (of_z w32 i0)) (to_z w32 (of_z w32 b)) → to_z w16 (of_z w16 r) ≡ H (i0 +ℤ pos 0) b
height_first H i0 b r low row size e =
    let r_fits : SFits w16 r = record { sfits = size } in
    let none : i0 ≡ i0 +ℤ pos 0 = omega (arith, ints) in
    to_z-of_z w16 r r_fits
    ∙ e
    ∙ ap₂ H (to_z-of_z w32 i0 (place_itself i0 low) ∙ none) (to_z-of_z w32 b (place_itself b row))

-- a row of a level's heights
pub IsRow : (ℤ → ℤ → ℤ) → ℤ → ℤ → List ℤ → Type 0
IsRow H i0 b row = (a : ℕ) → a < 7 → get_or row a (pos 0) ≡ H (i0 +ℤ pos a) b

pub row_after : (H : ℤ → ℤ → ℤ) (i0 j0 : ℤ) (row : List ℤ) (k : ℕ) → k ≤ 6 → IsPlace i0 → IsPlace j0 → IsPlace (j0 +ℤ pos 6) → ((a : ℕ) → a < 7 → get_or row a (pos 0) ≡ H (to_z w32 (of_z w32 i0) +ℤ pos a) (to_z w32 (of_z w32 (to_z w32 (of_z w32 j0) +ℤ pos k)))) → IsRow H i0 (j0 +ℤ pos k) row
unfolding IsRow
row_after H i0 j0 row k few column low high e = λ a l.
    e a l
    ∙ ap₂ H (ap (λ (x : ℤ). x +ℤ pos a) (to_z-of_z w32 i0 (place_itself i0 column))) (read_after j0 k (place_itself j0 low) (place_fits j0 k few low high))

pub row_first : (H : ℤ → ℤ → ℤ) (i0 j0 : ℤ) (row : List ℤ) → IsPlace i0 → IsPlace j0 → ((a : ℕ) → a < 7 → get_or row a (pos 0) ≡ H (to_z w32 (of_z w32 i0) +ℤ pos a) (to_z w32 (of_z w32 j0))) → IsRow H i0 (j0 +ℤ pos 0) row
unfolding IsRow
row_first H i0 j0 row column low e = λ a l.
    let none : j0 ≡ j0 +ℤ pos 0 = omega (arith, ints) in
    e a l
    ∙ ap₂ H (ap (λ (x : ℤ). x +ℤ pos a) (to_z-of_z w32 i0 (place_itself i0 column))) (to_z-of_z w32 j0 (place_itself j0 low) ∙ none)

-- a number that is not negative is its size
size_of : (z : ℤ) → pos 0 ≤ℤ z → pos (nat_abs z) ≡ z
size_of (pos n) h = refl
size_of (negsuc n) h = absurd (omega (arith, ints))

-- the heights of a patch whose rows are those of a level
patch_is : (H : ℤ → ℤ → ℤ) (patch : Patch) → ((n : ℕ) → n < 7 → IsRow H patch.i0 (patch.j0 +ℤ pos n) (get_or patch.h n [])) → (a b : ℤ) → patch.i0 ≤ℤ a → a ≤ℤ (patch.i0 +ℤ pos 6) → patch.j0 ≤ℤ b → b ≤ℤ (patch.j0 +ℤ pos 6) → H a b ≡ patch_height patch a b
unfolding IsRow
patch_is H patch rows a b al ah bl bh =
    let across : pos (nat_abs (a -ℤ patch.i0)) ≡ a -ℤ patch.i0 = size_of (a -ℤ patch.i0) (omega (arith, ints)) in
    let down : pos (nat_abs (b -ℤ patch.j0)) ≡ b -ℤ patch.j0 = size_of (b -ℤ patch.j0) (omega (arith, ints)) in
    let few_across : nat_abs (a -ℤ patch.i0) < 7 = omega (arith, ints) in
    let few_down : nat_abs (b -ℤ patch.j0) < 7 = omega (arith, ints) in
    let column : patch.i0 +ℤ pos (nat_abs (a -ℤ patch.i0)) ≡ a = omega (arith, ints) in
    let row : patch.j0 +ℤ pos (nat_abs (b -ℤ patch.j0)) ≡ b = omega (arith, ints) in
    height_inside patch a b (H a b) (omega (arith, ints)) (omega (arith, ints))
    (sym (rows (nat_abs (b -ℤ patch.j0)) few_down (nat_abs (a -ℤ patch.i0)) few_across ∙ ap₂ H column row))

-- ---- a prediction depends on the heights of its patch alone
Agree : (C D : ℤ → ℤ → ℤ) (i0 j0 : ℤ) → Type 0
Agree C D i0 j0 = (a b : ℤ) → i0 ≤ℤ a → a ≤ℤ (i0 +ℤ pos 6) → j0 ≤ℤ b → b ≤ℤ (j0 +ℤ pos 6) → C a b ≡ D a b

pub weighted_same : (p q r s p' q' r' s' : ℤ) → p ≡ p' → q ≡ q' → r ≡ r' → s ≡ s' → weighted p q r s ≡ weighted p' q' r' s'
weighted_same p q r s p' q' r' s' e f g h = cc

row_same : (C D : ℤ → ℤ → ℤ) (i0 j0 a b : ℤ) → Agree C D i0 j0 → (i0 +ℤ pos 1) ≤ℤ a → a ≤ℤ (i0 +ℤ pos 4) → j0 ≤ℤ b → b ≤ℤ (j0 +ℤ pos 6) → row_sum C a b ≡ row_sum D a b
unfolding row_sum Agree
row_same C D i0 j0 a b same al ah bl bh =
    weighted_same (C (a -ℤ pos 1) b) (C a b) (C (a +ℤ pos 1) b) (C (a +ℤ pos 2) b) (D (a -ℤ pos 1) b) (D a b) (D (a +ℤ pos 1) b) (D (a +ℤ pos 2) b)
    (same (a -ℤ pos 1) b (omega (arith, ints)) (omega (arith, ints)) bl bh) (same a b (omega (arith, ints)) (omega (arith, ints)) bl bh)
    (same (a +ℤ pos 1) b (omega (arith, ints)) (omega (arith, ints)) bl bh) (same (a +ℤ pos 2) b (omega (arith, ints)) (omega (arith, ints)) bl bh)

column_same : (C D : ℤ → ℤ → ℤ) (i0 j0 a b : ℤ) → Agree C D i0 j0 → i0 ≤ℤ a → a ≤ℤ (i0 +ℤ pos 6) → (j0 +ℤ pos 1) ≤ℤ b → b ≤ℤ (j0 +ℤ pos 4) → column_sum C a b ≡ column_sum D a b
unfolding column_sum Agree
column_same C D i0 j0 a b same al ah bl bh =
    weighted_same (C a (b -ℤ pos 1)) (C a b) (C a (b +ℤ pos 1)) (C a (b +ℤ pos 2)) (D a (b -ℤ pos 1)) (D a b) (D a (b +ℤ pos 1)) (D a (b +ℤ pos 2))
    (same a (b -ℤ pos 1) al ah (omega (arith, ints)) (omega (arith, ints))) (same a b al ah (omega (arith, ints)) (omega (arith, ints)))
    (same a (b +ℤ pos 1) al ah (omega (arith, ints)) (omega (arith, ints))) (same a (b +ℤ pos 2) al ah (omega (arith, ints)) (omega (arith, ints)))

square_same : (C D : ℤ → ℤ → ℤ) (i0 j0 a b : ℤ) → Agree C D i0 j0 → (i0 +ℤ pos 1) ≤ℤ a → a ≤ℤ (i0 +ℤ pos 4) → (j0 +ℤ pos 1) ≤ℤ b → b ≤ℤ (j0 +ℤ pos 4) → square_sum C a b ≡ square_sum D a b
unfolding square_sum
square_same C D i0 j0 a b same al ah bl bh =
    weighted_same (row_sum C a (b -ℤ pos 1)) (row_sum C a b) (row_sum C a (b +ℤ pos 1)) (row_sum C a (b +ℤ pos 2)) (row_sum D a (b -ℤ pos 1)) (row_sum D a b) (row_sum D a (b +ℤ pos 1)) (row_sum D a (b +ℤ pos 2))
    (row_same C D i0 j0 a (b -ℤ pos 1) same al ah (omega (arith, ints)) (omega (arith, ints))) (row_same C D i0 j0 a b same al ah (omega (arith, ints)) (omega (arith, ints)))
    (row_same C D i0 j0 a (b +ℤ pos 1) same al ah (omega (arith, ints)) (omega (arith, ints))) (row_same C D i0 j0 a (b +ℤ pos 2) same al ah (omega (arith, ints)) (omega (arith, ints)))

half_low : (z first : ℤ) → (pos 2 *ℤ first +ℤ pos 2) ≤ℤ z → (first +ℤ pos 1) ≤ℤ floor_div z 2
unfolding floor_div
half_low (pos n) first h = omega (arith, ints)
half_low (negsuc n) first h = omega (arith, ints)

half_high : (z first : ℤ) → z ≤ℤ (pos 2 *ℤ first +ℤ pos 9) → floor_div z 2 ≤ℤ (first +ℤ pos 4)
unfolding floor_div
half_high (pos n) first h = omega (arith, ints)
half_high (negsuc n) first h = omega (arith, ints)

predicted_same : (C D : ℤ → ℤ → ℤ) (i0 j0 : ℤ) (column row : ℕ) (a b : ℤ) → Agree C D i0 j0 → (i0 +ℤ pos 1) ≤ℤ a → a ≤ℤ (i0 +ℤ pos 4) → (j0 +ℤ pos 1) ≤ℤ b → b ≤ℤ (j0 +ℤ pos 4) → predicted C column row a b ≡ predicted D column row a b
unfolding predicted Agree
predicted_same C D i0 j0 zero zero a b same al ah bl bh = same a b (omega (arith, ints)) (omega (arith, ints)) (omega (arith, ints)) (omega (arith, ints))
predicted_same C D i0 j0 (suc odd) zero a b same al ah bl bh = ap (λ (z : ℤ). floor_div (z +ℤ pos 8) 16) (row_same C D i0 j0 a b same al ah (omega (arith, ints)) (omega (arith, ints)))
predicted_same C D i0 j0 zero (suc odd) a b same al ah bl bh = ap (λ (z : ℤ). floor_div (z +ℤ pos 8) 16) (column_same C D i0 j0 a b same (omega (arith, ints)) (omega (arith, ints)) bl bh)
predicted_same C D i0 j0 (suc odd) (suc odd') a b same al ah bl bh = ap (λ (z : ℤ). floor_div (z +ℤ pos 128) 256) (square_same C D i0 j0 a b same al ah bl bh)

pub prediction_same : (C D : ℤ → ℤ → ℤ) (i0 j0 i j : ℤ) → ((a b : ℤ) → i0 ≤ℤ a → a ≤ℤ (i0 +ℤ pos 6) → j0 ≤ℤ b → b ≤ℤ (j0 +ℤ pos 6) → C a b ≡ D a b) → IsOfBlock i0 i → IsOfBlock j0 j → prediction C i j ≡ prediction D i j
unfolding prediction Agree
prediction_same C D i0 j0 i j same column row =
    predicted_same C D i0 j0 (floor_rem i 2) (floor_rem j 2) (floor_div i 2) (floor_div j 2) same
    (half_low i i0 column.low) (half_high i i0 column.high) (half_low j j0 row.low) (half_high j j0 row.high)

pub patch_predicts : (H : ℤ → ℤ → ℤ) (i0 j0 x y : ℤ) (rows : List (List ℤ)) → x ≡ i0 → y ≡ j0 → ((n : ℕ) → n < 7 → IsRow H i0 (j0 +ℤ pos n) (get_or rows n [])) → (i j : ℤ) → IsOfBlock i0 i → IsOfBlock j0 j → prediction (patch_height (record { i0 = x; j0 = y; h = rows })) i j ≡ prediction H i j
patch_predicts H i0 j0 x y rows e f filled i j column row =
    let patch : Patch = record { i0 = i0; j0 = j0; h = rows } in
    let moved : Patch = record { i0 = x; j0 = y; h = rows } in
    let same : patch_height moved ≡ patch_height patch = ap₂ (λ (u v : ℤ). patch_height (record { i0 = u; j0 = v; h = rows })) e f in
    ap (λ (C : ℤ → ℤ → ℤ). prediction C i j) same
    ∙ sym (prediction_same H (patch_height patch) i0 j0 i j (patch_is H patch filled) column row)
