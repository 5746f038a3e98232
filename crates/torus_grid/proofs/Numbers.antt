-- Signed numbers that went to their bits and back, order of natural numbers, and remainders.
use Rattle.std.proofs.Common.{◌≡◌, ℕ, ◌+◌, ◌*◌, ◌/◌, ◌%◌, ◌<◌, ℤ, pos, negsuc, ◌+ℤ◌, ◌*ℤ◌, arith}
use Rattle.std.proofs.lemmas.Int.{ints}
use Rattle.clip_regions.specs.FloorDivision.{floor_div, floor_rem}
use Rattle.plan_model.proofs.Quotients.{rem_by_blocks}

-- ---- remainders by eight
pub eight_below : (a : ℤ) → floor_rem a 8 < 8
unfolding floor_rem
eight_below (pos n) = omega arith
eight_below (negsuc n) = omega arith

pub eight_is : (a : ℤ) → a ≡ pos 8 *ℤ floor_div a 8 +ℤ pos (floor_rem a 8)
unfolding floor_div floor_rem
eight_is (pos n) = omega (arith, ints)
eight_is (negsuc n) = omega (arith, ints)

-- the remainder of a number that is so far above a multiple of eight
pub rem_is : (z q : ℤ) (r : ℕ) → r < 8 → z ≡ pos 8 *ℤ q +ℤ pos r → floor_rem z 8 ≡ r
rem_is z q r small e =
    let below : floor_rem z 8 < 8 = eight_below z in
    let whole : z ≡ pos 8 *ℤ floor_div z 8 +ℤ pos (floor_rem z 8) = eight_is z in
    omega (arith, ints)

-- n places on in the same block
pub rem_on : (z : ℤ) (n : ℕ) → floor_rem z 8 + n < 8 → floor_rem (z +ℤ pos n) 8 ≡ floor_rem z 8 + n
rem_on z n h =
    let whole : z ≡ pos 8 *ℤ floor_div z 8 +ℤ pos (floor_rem z 8) = eight_is z in
    rem_is (z +ℤ pos n) (floor_div z 8) (floor_rem z 8 + n) h (omega (arith, ints))

pub div_on : (z : ℤ) (n : ℕ) → floor_rem z 8 + n < 8 → floor_div (z +ℤ pos n) 8 ≡ floor_div z 8
div_on z n h =
    let whole : z ≡ pos 8 *ℤ floor_div z 8 +ℤ pos (floor_rem z 8) = eight_is z in
    let whole' : z +ℤ pos n ≡ pos 8 *ℤ floor_div (z +ℤ pos n) 8 +ℤ pos (floor_rem (z +ℤ pos n) 8) = eight_is (z +ℤ pos n) in
    let same : floor_rem (z +ℤ pos n) 8 ≡ floor_rem z 8 + n = rem_on z n h in
    omega (arith, ints)

-- ---- remainders by a multiple of eight
pub rem_of_rem : (z : ℤ) (t : ℕ) → 0 < t → floor_rem z (8 * t) % 8 ≡ floor_rem z 8
unfolding floor_rem
rem_of_rem (pos n) t h = let e : n % (8 * t) ≡ 8 * (n / 8 % t) + n % 8 = rem_by_blocks n t h in omega arith
rem_of_rem (negsuc n) t h =
    let e : n % (8 * t) ≡ 8 * (n / 8 % t) + n % 8 = rem_by_blocks n t h in
    let below : n / 8 % t < t = omega arith in
    omega arith
