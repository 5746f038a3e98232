-- Division that rounds down, and its remainder: what the laws need of their definitions.
use Rattle.std.proofs.Common.{◌≡◌, ℕ, ◌+◌, ◌*◌, ◌/◌, ◌%◌, ◌^◌, ◌<◌, ◌≤◌, ℤ, pos, negsuc, ◌+ℤ◌, ◌*ℤ◌, ◌≤ℤ◌, ◌<ℤ◌, ap, sym, arith}
use Rattle.std.proofs.lemmas.Int.{ints, by_lt_z}
use Rattle.std.proofs.lemmas.Nat.{pow-add}
use Rattle.std.proofs.Math.Nat.{div-div-eq-div-mul, mul-le-mul_left}
use Rattle.std.proofs.Math.Pow.{pow_mono}
use borrow.Author.Differences.{up, down}
use Rattle.clip_regions.specs.FloorDivision.{floor_div, floor_rem}
use Rattle.clip_regions.proofs.Quotients.{rem_below, quotient_and_rest}

-- half of a quotient is the quotient by twice the divisor
pub half_quotient : (v : ℤ) (d : ℕ) → floor_div (floor_div v d) 2 ≡ floor_div v (d * 2)
unfolding floor_div
half_quotient (pos n) d = ap pos (div-div-eq-div-mul n d 2)
half_quotient (negsuc n) d = ap negsuc (div-div-eq-div-mul n d 2)

-- half of an even number, and that it leaves nothing
pub half_of : (z h : ℤ) → z ≡ pos 2 *ℤ h → floor_div z 2 ≡ h
half_of z h e =
    let below : floor_rem z 2 < 2 = rem_below z 2 (omega arith) in
    let whole : z ≡ pos 2 *ℤ floor_div z 2 +ℤ pos (floor_rem z 2) = quotient_and_rest z 2 (omega arith) in
    omega (arith, ints)

pub even_from : (z h : ℤ) → z ≡ pos 2 *ℤ h → floor_rem z 2 ≡ 0
even_from z h e =
    let below : floor_rem z 2 < 2 = rem_below z 2 (omega arith) in
    let whole : z ≡ pos 2 *ℤ floor_div z 2 +ℤ pos (floor_rem z 2) = quotient_and_rest z 2 (omega arith) in
    omega (arith, ints)

-- a number that is at least twice another has a half that is at least that one; and at most
pub half_at_least : (z h : ℤ) → (pos 2 *ℤ h) ≤ℤ z → h ≤ℤ floor_div z 2
half_at_least z h e =
    let below : floor_rem z 2 < 2 = rem_below z 2 (omega arith) in
    let whole : z ≡ pos 2 *ℤ floor_div z 2 +ℤ pos (floor_rem z 2) = quotient_and_rest z 2 (omega arith) in
    omega (arith, ints)

pub half_at_most : (z h : ℤ) → z ≤ℤ (pos 2 *ℤ h) → floor_div z 2 ≤ℤ h
half_at_most z h e =
    let below : floor_rem z 2 < 2 = rem_below z 2 (omega arith) in
    let whole : z ≡ pos 2 *ℤ floor_div z 2 +ℤ pos (floor_rem z 2) = quotient_and_rest z 2 (omega arith) in
    omega (arith, ints)

-- ---- powers of two
pub next_power : (n : ℕ) → 2 ^ (n + 1) ≡ 2 ^ n * 2
next_power n = pow-add 2 n 1

pub some_power : (n : ℕ) → 1 ≤ 2 ^ n
some_power n = pow_mono {i = 0} {j = n} (omega arith)

-- ---- blocks of eight
-- a remainder by 8 t, by the remainder of the quotient by 8 and that by 8
pub rem_by_blocks : (n t : ℕ) → 0 < t → n % (8 * t) ≡ 8 * (n / 8 % t) + n % 8
rem_by_blocks n t h =
    let scaled : (8 * t) * (n / (8 * t)) ≡ (8 * t) * (n / 8 / t) = ap (λ (q : ℕ). (8 * t) * q) (sym (div-div-eq-div-mul n 8 t)) in
    let some : 0 < 8 * t = omega arith in
    let whole : (8 * t) * (n / (8 * t)) + n % (8 * t) ≡ n = omega arith in
    let blocks : t * (n / 8 / t) + n / 8 % t ≡ n / 8 = omega arith in
    omega (arith, scaled, whole, blocks)

-- the block of a remainder is the remainder of the block
pub block_of_rem : (z : ℤ) (t : ℕ) → 0 < t → floor_rem z (8 * t) / 8 ≡ floor_rem (floor_div z 8) t
unfolding floor_rem floor_div
block_of_rem (pos n) t h = let e : n % (8 * t) ≡ 8 * (n / 8 % t) + n % 8 = rem_by_blocks n t h in omega arith
block_of_rem (negsuc n) t h =
    let e : n % (8 * t) ≡ 8 * (n / 8 % t) + n % 8 = rem_by_blocks n t h in
    let below : n / 8 % t < t = omega arith in
    omega arith

-- ---- numbers of one remainder
order_times : (a b : ℤ) (m : ℕ) → a <ℤ b → (pos m *ℤ a +ℤ pos m) ≤ℤ (pos m *ℤ b)
order_times a b m h =
    let gap : up a + down b + 1 ≤ up b + down a = omega (arith, ints) in
    let scaled : m * (up a + down b + 1) ≤ m * (up b + down a) = mul-le-mul_left m gap in
    omega (arith, ints, scaled)

pub same_quotient : (q q' : ℤ) (m : ℕ) → (pos m *ℤ q) <ℤ (pos m *ℤ q' +ℤ pos m) → (pos m *ℤ q') <ℤ (pos m *ℤ q +ℤ pos m) → q ≡ q'
same_quotient q q' m h k =
    by_lt_z q q' (λ (l : q <ℤ q'). let apart : (pos m *ℤ q +ℤ pos m) ≤ℤ (pos m *ℤ q') = order_times q q' m l in absurd (omega (arith, ints))) (λ (g : q' ≤ℤ q). by_lt_z q' q (λ (l : q' <ℤ q). let apart : (pos m *ℤ q' +ℤ pos m) ≤ℤ (pos m *ℤ q) = order_times q' q m l in absurd (omega (arith, ints))) (λ (e : q ≤ℤ q'). omega (arith, ints)))

pub same_from_rem : (i i' : ℤ) (m : ℕ) → 0 < m → floor_rem i m ≡ floor_rem i' m → i <ℤ (i' +ℤ pos m) → i' <ℤ (i +ℤ pos m) → i ≡ i'
same_from_rem i i' m some e h k =
    let whole : i ≡ pos m *ℤ floor_div i m +ℤ pos (floor_rem i m) = quotient_and_rest i m some in
    let whole' : i' ≡ pos m *ℤ floor_div i' m +ℤ pos (floor_rem i' m) = quotient_and_rest i' m some in
    let same : floor_div i m ≡ floor_div i' m = same_quotient (floor_div i m) (floor_div i' m) m (omega (arith, ints)) (omega (arith, ints)) in
    let product : pos m *ℤ floor_div i m ≡ pos m *ℤ floor_div i' m = ap (λ (q : ℤ). pos m *ℤ q) same in
    omega (arith, ints)
