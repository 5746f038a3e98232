-- How large a code is, and how near its value is to the height.
use Rattle.std.proofs.Common.{◌≡◌, ℕ, ◌+◌, ◌-◌, ◌/◌, ◌<◌, ◌≤◌, ℤ, pos, negsuc, ◌+ℤ◌, ◌-ℤ◌, ◌*ℤ◌, ◌≤ℤ◌, ◌<ℤ◌, ⊎_elim, ◌⊎◌, inl, inr, sym, ap, ◌∙◌, arith}
use Rattle.std.proofs.lemmas.Int.{ints}
use Rattle.std.proofs.lemmas.Int.{clamps}
use Rattle.std.proofs.Common.{refl, unsigned_abs, FitsSigned, ◌^◌}
use Rattle.std.specs.Int.{w16}
use native.Mathlib.Nat.{div-le_self}
use Rattle.clip_regions.specs.FloorDivision.{floor_div, floor_rem}
use Rattle.four_point.specs.Prediction.{prediction}
use Rattle.four_point.specs.Patches.{IsAtMost}
use Rattle.four_point.specs.Steps.{IsStep, IsNear, code_of, value_of, brought}
use Rattle.four_point.specs.Laws.{IsWithinHalf}
use Rattle.four_point.proofs.LawLemmas.{prediction_size}
use Rattle.clip_regions.proofs.Quotients.{rem_below, quotient_and_rest}

sign_of : (z : ℤ) → (pos 0 ≤ℤ z) ⊎ (z <ℤ pos 0)
sign_of (pos n) = inl (omega (arith, ints))
sign_of (negsuc n) = inr (omega (arith, ints))

pub quotient_size : (distance half z : ℤ) (step : ℕ) → IsAtMost 100000 distance → IsStep step → half ≡ pos ((step - 1) / 2) → (pos 0 ≤ℤ (distance +ℤ half) → (pos 0 ≤ℤ z) × (z ≤ℤ (distance +ℤ half))) → ((distance +ℤ half) <ℤ pos 0 → ((distance +ℤ half) ≤ℤ z) × (z <ℤ pos 0)) → IsAtMost 131071 z
quotient_size distance half z step size s e zero below =
    let few : (step - 1) / 2 ≤ 127 = (let h = s.high in omega arith) in
    let dl = size.low in
    let dh = size.high in
    ⊎_elim
    (λ (p : pos 0 ≤ℤ (distance +ℤ half)). let r = zero p in let l = r.0 in let h = r.1 in record { low = omega (arith, ints); high = omega (arith, ints) })
    (λ (p : (distance +ℤ half) <ℤ pos 0). let r = below p in let l = r.0 in let h = r.1 in record { low = omega (arith, ints); high = omega (arith, ints) })
    (sign_of (distance +ℤ half))

-- ---- division that rounds down
at_zero_or_more : (a : ℤ) (d : ℕ) → pos 0 ≤ℤ a → (pos 0 ≤ℤ floor_div a d) × (floor_div a d ≤ℤ a)
unfolding floor_div
at_zero_or_more (pos n) d p = let least : n / d ≤ n = div-le_self n d in (omega (arith, ints), omega (arith, ints))
at_zero_or_more (negsuc n) d p = absurd (omega (arith, ints))

below_zero : (a : ℤ) (d : ℕ) → a <ℤ pos 0 → (a ≤ℤ floor_div a d) × (floor_div a d <ℤ pos 0)
unfolding floor_div
below_zero (pos n) d p = absurd (omega (arith, ints))
below_zero (negsuc n) d p = let least : n / d ≤ n = div-le_self n d in (omega (arith, ints), omega (arith, ints))

-- ---- values
within_half : (step : ℕ) (height prediction code rest : ℤ) → IsStep step → pos 0 ≤ℤ rest → rest <ℤ pos step → (height -ℤ prediction) +ℤ pos ((step - 1) / 2) ≡ pos step *ℤ code +ℤ rest → IsWithinHalf step height (prediction +ℤ pos step *ℤ code)
within_half step height prediction code rest s low high e =
    let halves : (step - 1) / 2 + (step - 1) / 2 + 1 ≡ step = (let o = s.odd in omega arith) in
    record { low = omega (arith, ints); high = omega (arith, ints) }

pub value_within_half : (coarser : ℤ → ℤ → ℤ) (step : ℕ) (i j height : ℤ) → IsStep step → IsWithinHalf step height (value_of coarser step i j (code_of coarser step i j height))
unfolding value_of code_of
value_within_half coarser step i j height s =
    let some : 0 < step = (let o = s.odd in omega arith) in
    let a = (height -ℤ prediction coarser i j) +ℤ pos ((step - 1) / 2) in
    let below = rem_below a step some in
    within_half step height (prediction coarser i j) (floor_div a step) (pos (floor_rem a step)) s (omega (arith, ints)) (omega (arith, ints)) (quotient_and_rest a step some)

pub within_half_is_near : (step : ℕ) (height value : ℤ) → FitsSigned w16 height → IsWithinHalf step height value → IsNear step value
within_half_is_near step height value fits h =
    let l = h.low in
    let u = h.high in
    record { low = omega (arith, ints); high = omega (arith, ints) }

pub brought_fits : (value : ℤ) → FitsSigned w16 (brought value)
unfolding brought
brought_fits value = grind (arith, ints, clamps)

pub brought_same : (value : ℤ) → FitsSigned w16 value → brought value ≡ value
unfolding brought
brought_same value fits = grind (arith, ints, clamps)

pub brought_within_half : (step : ℕ) (height value : ℤ) → FitsSigned w16 height → IsWithinHalf step height value → IsWithinHalf step height (brought value)
unfolding brought
brought_within_half step height value fits h =
    let l = h.low in
    let u = h.high in
    record { low = omega (arith, ints, clamps); high = omega (arith, ints, clamps) }

by_one : (a : ℤ) → floor_div (a +ℤ pos 0) 1 ≡ a
by_one a =
    let below = rem_below (a +ℤ pos 0) 1 (omega arith) in
    let whole = quotient_and_rest (a +ℤ pos 0) 1 (omega arith) in
    omega (arith, ints)

pub in_steps_of_one : (a : ℤ) (step : ℕ) → step ≡ 1 → a ≡ floor_div (a +ℤ pos ((step - 1) / 2)) step
in_steps_of_one a step e = sym (ap (λ (n : ℕ). floor_div (a +ℤ pos ((n - 1) / 2)) n) e ∙ by_one a)

pub code_by_one : (coarser : ℤ → ℤ → ℤ) (i j height : ℤ) → code_of coarser 1 i j height ≡ height -ℤ prediction coarser i j
unfolding code_of
code_by_one coarser i j height = by_one (height -ℤ prediction coarser i j)

pub code_size : (coarser : ℤ → ℤ → ℤ) (step : ℕ) (i j height : ℤ) → ((a b : ℤ) → FitsSigned w16 (coarser a b)) → FitsSigned w16 height → IsStep step → unsigned_abs (code_of coarser step i j height) < 2 ^ 17
unfolding code_of
code_size coarser step i j height short fits s =
    let size = prediction_size coarser i j short in
    let distance : IsAtMost 100000 (height -ℤ prediction coarser i j) = (let l = size.low in let h = size.high in record { low = omega (arith, ints); high = omega (arith, ints) }) in
    let a = (height -ℤ prediction coarser i j) +ℤ pos ((step - 1) / 2) in
    let q = quotient_size (height -ℤ prediction coarser i j) (pos ((step - 1) / 2)) (floor_div a step) step distance s refl (at_zero_or_more a step) (below_zero a step) in
    let l = q.low in
    let h = q.high in
    omega (arith, ints)
