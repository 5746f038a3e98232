-- A prediction depends on what its cell needs alone.
use Rattle.std.proofs.Common.{◌≡◌, ℕ, zero, suc, ◌<◌, true, ℤ, pos, ◌+ℤ◌, ◌-ℤ◌, ◌*ℤ◌, ◌≤ℤ◌, refl, ap, arith}
use Rattle.std.proofs.lemmas.Int.{ints}
use Rattle.clip_regions.specs.declared.region.Region.{Region}
use Rattle.clip_regions.specs.Regions.{contains}
use Rattle.clip_regions.specs.FloorDivision.{floor_div, floor_rem}
use Rattle.four_point.specs.Prediction.{weighted, row_sum, column_sum, square_sum, predicted, prediction}
use Rattle.plan_model.specs.Strips.{need}
use Rattle.clip_regions.proofs.Cells.{lies, lying}
use Rattle.clip_regions.proofs.Quotients.{quotient_and_rest, rem_below}

weighted_same : (p q r s p' q' r' s' : ℤ) → p ≡ p' → q ≡ q' → r ≡ r' → s ≡ s' → weighted p q r s ≡ weighted p' q' r' s'
weighted_same p q r s p' q' r' s' e f g h = cc

-- from before a place to behind it, by whether it is an odd one: its own alone where it is even
Reach : ℕ → ℤ → ℤ → Type 0
Reach zero a x = x ≡ a
Reach (suc odd) a x = ((a -ℤ pos 1) ≤ℤ x) × (x ≤ℤ (a +ℤ pos 2))

-- two tables agree on what is read at a place
Agree : (C D : ℤ → ℤ → ℤ) (column row : ℕ) (a b : ℤ) → Type 0
Agree C D column row a b = (x y : ℤ) → Reach column a x → Reach row b y → C x y ≡ D x y

row_same : (C D : ℤ → ℤ → ℤ) (a b : ℤ) → ((x : ℤ) → (a -ℤ pos 1) ≤ℤ x → x ≤ℤ (a +ℤ pos 2) → C x b ≡ D x b) → row_sum C a b ≡ row_sum D a b
unfolding row_sum
row_same C D a b same =
    weighted_same (C (a -ℤ pos 1) b) (C a b) (C (a +ℤ pos 1) b) (C (a +ℤ pos 2) b) (D (a -ℤ pos 1) b) (D a b) (D (a +ℤ pos 1) b) (D (a +ℤ pos 2) b)
    (same (a -ℤ pos 1) (omega (arith, ints)) (omega (arith, ints))) (same a (omega (arith, ints)) (omega (arith, ints)))
    (same (a +ℤ pos 1) (omega (arith, ints)) (omega (arith, ints))) (same (a +ℤ pos 2) (omega (arith, ints)) (omega (arith, ints)))

column_same : (C D : ℤ → ℤ → ℤ) (a b : ℤ) → ((y : ℤ) → (b -ℤ pos 1) ≤ℤ y → y ≤ℤ (b +ℤ pos 2) → C a y ≡ D a y) → column_sum C a b ≡ column_sum D a b
unfolding column_sum
column_same C D a b same =
    weighted_same (C a (b -ℤ pos 1)) (C a b) (C a (b +ℤ pos 1)) (C a (b +ℤ pos 2)) (D a (b -ℤ pos 1)) (D a b) (D a (b +ℤ pos 1)) (D a (b +ℤ pos 2))
    (same (b -ℤ pos 1) (omega (arith, ints)) (omega (arith, ints))) (same b (omega (arith, ints)) (omega (arith, ints)))
    (same (b +ℤ pos 1) (omega (arith, ints)) (omega (arith, ints))) (same (b +ℤ pos 2) (omega (arith, ints)) (omega (arith, ints)))

square_same : (C D : ℤ → ℤ → ℤ) (a b : ℤ) → ((x y : ℤ) → (a -ℤ pos 1) ≤ℤ x → x ≤ℤ (a +ℤ pos 2) → (b -ℤ pos 1) ≤ℤ y → y ≤ℤ (b +ℤ pos 2) → C x y ≡ D x y) → square_sum C a b ≡ square_sum D a b
unfolding square_sum
square_same C D a b same =
    weighted_same (row_sum C a (b -ℤ pos 1)) (row_sum C a b) (row_sum C a (b +ℤ pos 1)) (row_sum C a (b +ℤ pos 2)) (row_sum D a (b -ℤ pos 1)) (row_sum D a b) (row_sum D a (b +ℤ pos 1)) (row_sum D a (b +ℤ pos 2))
    (row_same C D a (b -ℤ pos 1) (λ x l h. same x (b -ℤ pos 1) l h (omega (arith, ints)) (omega (arith, ints))))
    (row_same C D a b (λ x l h. same x b l h (omega (arith, ints)) (omega (arith, ints))))
    (row_same C D a (b +ℤ pos 1) (λ x l h. same x (b +ℤ pos 1) l h (omega (arith, ints)) (omega (arith, ints))))
    (row_same C D a (b +ℤ pos 2) (λ x l h. same x (b +ℤ pos 2) l h (omega (arith, ints)) (omega (arith, ints))))

predicted_same : (C D : ℤ → ℤ → ℤ) (column row : ℕ) (a b : ℤ) → Agree C D column row a b → predicted C column row a b ≡ predicted D column row a b
unfolding predicted Agree Reach
predicted_same C D zero zero a b same = same a b refl refl
predicted_same C D (suc odd) zero a b same = ap (λ (z : ℤ). floor_div (z +ℤ pos 8) 16) (row_same C D a b (λ x l h. same x b (l, h) refl))
predicted_same C D zero (suc odd) a b same = ap (λ (z : ℤ). floor_div (z +ℤ pos 8) 16) (column_same C D a b (λ y l h. same a y refl (l, h)))
predicted_same C D (suc odd) (suc odd') a b same = ap (λ (z : ℤ). floor_div (z +ℤ pos 128) 256) (square_same C D a b (λ x y l h l' h'. same x y (l, h) (l', h')))

-- what is read at a place of an axis lies within what is needed
axis : (low high i x : ℤ) (odd : ℕ) → floor_rem i 2 ≡ odd → low ≤ℤ i → i ≤ℤ high → Reach odd (floor_div i 2) x → ((floor_div low 2 -ℤ pos 1) ≤ℤ x) × (x ≤ℤ (floor_div (high +ℤ pos 1) 2 +ℤ pos 1))
unfolding Reach
axis low high i x zero e l h reach =
    let here : i ≡ pos 2 *ℤ floor_div i 2 +ℤ pos (floor_rem i 2) = quotient_and_rest i 2 (omega arith) in
    let first : low ≡ pos 2 *ℤ floor_div low 2 +ℤ pos (floor_rem low 2) = quotient_and_rest low 2 (omega arith) in
    let last : high +ℤ pos 1 ≡ pos 2 *ℤ floor_div (high +ℤ pos 1) 2 +ℤ pos (floor_rem (high +ℤ pos 1) 2) = quotient_and_rest (high +ℤ pos 1) 2 (omega arith) in
    let small : floor_rem (high +ℤ pos 1) 2 < 2 = rem_below (high +ℤ pos 1) 2 (omega arith) in
    let at : x ≡ floor_div i 2 = reach in
    (omega (arith, ints), omega (arith, ints))
axis low high i x (suc n) e l h reach =
    let here : i ≡ pos 2 *ℤ floor_div i 2 +ℤ pos (floor_rem i 2) = quotient_and_rest i 2 (omega arith) in
    let less : floor_rem i 2 < 2 = rem_below i 2 (omega arith) in
    let first : low ≡ pos 2 *ℤ floor_div low 2 +ℤ pos (floor_rem low 2) = quotient_and_rest low 2 (omega arith) in
    let last : high +ℤ pos 1 ≡ pos 2 *ℤ floor_div (high +ℤ pos 1) 2 +ℤ pos (floor_rem (high +ℤ pos 1) 2) = quotient_and_rest (high +ℤ pos 1) 2 (omega arith) in
    let small : floor_rem (high +ℤ pos 1) 2 < 2 = rem_below (high +ℤ pos 1) 2 (omega arith) in
    let west : (floor_div i 2 -ℤ pos 1) ≤ℤ x = reach.0 in
    let east : x ≤ℤ (floor_div i 2 +ℤ pos 2) = reach.1 in
    (omega (arith, ints), omega (arith, ints))

-- the predictions of a region's cells depend on the heights of its need alone
pub predicted_by_need : (C D : ℤ → ℤ → ℤ) (r : Region) (i j : ℤ) → contains r i j ≡ true → ((x y : ℤ) → contains (need r) x y ≡ true → C x y ≡ D x y) → prediction C i j ≡ prediction D i j
unfolding prediction need Agree
predicted_by_need C D r i j inside same =
    let at = lies r i j inside in
    predicted_same C D (floor_rem i 2) (floor_rem j 2) (floor_div i 2) (floor_div j 2) (λ x y column row.
    let across = axis r.x0 r.x1 i x (floor_rem i 2) refl at.west at.east column in
    let down = axis r.y0 r.y1 j y (floor_rem j 2) refl at.north at.south row in
    same x y (lying (need r) x y (record { west = across.0; east = across.1; north = down.0; south = down.1 })))
