-- The ones at the head of a register, by the count of the zeros at the head of its complement.
use Rattle.std.proofs.Common.{◌≡◌, ℕ, suc, ◌+◌, ◌-◌, ◌*◌, ◌/◌, ◌%◌, ◌^◌, ◌<◌, ◌≤◌, Bool, true, false, List, ◌∷◌, ◌++◌, replicate, ◌==◌, sym, ap, ap₂, ◌∙◌, ⊎_elim, arith, pow_pos, pow_mono, pow-add, mul-le-mul_right}
use Rattle.std.specs.Int.{bit_at}
use Rattle.std.specs.Int.Count.{count_leading_zeros}
use Rattle.std.proofs.lemmas.Bool.{cases_lt}
use Rattle.std.proofs.lemmas.Nat.{leading_top, div-mul-add, shl-shr, shr-shr, mod_below}
use Rattle.rice_residuals.specs.Bits.{low_bits}
use Rattle.rice_residuals.proofs.LowBits.{low_bits-mod, low_bits-ones, pow_next}
use Rattle.rice_residuals.proofs.Registers.{shl_mod, low_bits-mod_more}
use Rattle.rice_residuals.proofs.Readings.{held_split}

-- a number that is close below 2 ^ 64 begins with ones
top_ones : (high q m : ℕ) → q + m ≡ 64 → high < 2 ^ 64 → 2 ^ 64 ≤ high + 2 ^ m → high / 2 ^ m ≡ 2 ^ q - 1
top_ones high q m e below close =
    let p = 2 ^ q - 1 in
    let power : 2 ^ q ≡ p + 1 = omega (arith, pow_pos q) in
    let whole : 2 ^ 64 ≡ p * 2 ^ m + 2 ^ m =
    ap (λ (n : ℕ). 2 ^ n) (sym e) ∙ pow-add 2 q m ∙ ap (λ (n : ℕ). n * 2 ^ m) power ∙ omega arith in
    let parts : high ≡ p * 2 ^ m + (high - p * 2 ^ m) = omega arith in
    ap (λ (n : ℕ). n / 2 ^ m) parts ∙ div-mul-add p (2 ^ m) (high - p * 2 ^ m) (omega arith)

-- the bit behind the ones is a zero
zero_behind : (high n j : ℕ) → n + suc j ≡ 64 → high < 2 ^ 64 → 2 ^ 64 ≤ high + 2 ^ suc j → high + 2 ^ j < 2 ^ 64 → bit_at high j ≡ 0
zero_behind high n j e below close apart =
    let p = 2 ^ n - 1 in
    let power : 2 ^ n ≡ p + 1 = omega (arith, pow_pos n) in
    let whole : 2 ^ 64 ≡ p * 2 ^ suc j + 2 ^ suc j =
    ap (λ (i : ℕ). 2 ^ i) (sym e) ∙ pow-add 2 n (suc j) ∙ ap (λ (i : ℕ). i * 2 ^ suc j) power ∙ omega arith in
    let next = pow_next j in
    let product : p * 2 ^ suc j ≡ (2 * p) * 2 ^ j = ap (λ (i : ℕ). p * i) next ∙ omega arith in
    let parts : high ≡ (2 * p) * 2 ^ j + (high - (2 * p) * 2 ^ j) = omega arith in
    let quotient : high / 2 ^ j ≡ 2 * p = ap (λ (i : ℕ). i / 2 ^ j) parts ∙ div-mul-add (2 * p) (2 ^ j) (high - (2 * p) * 2 ^ j) (omega arith) in
    ap (λ (i : ℕ). i % 2) quotient ∙ omega arith

-- the high bits of a number that was shifted to the left
shifted_high : (v k i : ℕ) → (v * 2 ^ k) / 2 ^ (k + i) ≡ v / 2 ^ i
shifted_high v k i = sym (shr-shr (v * 2 ^ k) k i) ∙ ap (λ (n : ℕ). n / 2 ^ i) (shl-shr v k)

-- what is known of the first ones of a register of h bits
pub record HasRun (bits h n : ℕ) : Type 0 where
  pub within : n ≤ h
  pub run : (q : ℕ) → q ≤ n → low_bits h bits ≡ replicate q true ++ low_bits (h - q) bits
  pub zero : n < h → low_bits (h - n) bits ≡ false ∷ low_bits (h - n - 1) bits

module _ (bits h : ℕ) (some : 0 < h) (few : h < 64) where
  high_is : (bits * 2 ^ (64 - h)) % 2 ^ 64 ≡ (bits % 2 ^ h) * 2 ^ (64 - h)
  high_is =
      let width : 64 ≡ h + (64 - h) = omega arith in
      ap (λ (w : ℕ). (bits * 2 ^ (64 - h)) % 2 ^ w) width ∙ shl_mod bits (64 - h) h

  high_gap : (bits * 2 ^ (64 - h)) % 2 ^ 64 + 2 ^ (64 - h) ≤ 2 ^ 64
  high_gap =
      let k = 64 - h in
      let v = bits % 2 ^ h in
      let width : 64 ≡ h + k = omega arith in
      let whole : 2 ^ 64 ≡ 2 ^ h * 2 ^ k = ap (λ (w : ℕ). 2 ^ w) width ∙ pow-add 2 h k in
      let below : v < 2 ^ h = mod_below bits (2 ^ h) (pow_pos h) in
      let gap : (v + 1) * 2 ^ k ≤ 2 ^ h * 2 ^ k = mul-le-mul_right (2 ^ k) (omega arith) in
      omega (arith, high_is)

  low_of_run : (n j : ℕ) → n + suc j ≡ 64 → n ≤ h → 2 ^ 64 ≤ (bits * 2 ^ (64 - h)) % 2 ^ 64 + 2 ^ suc j → (q : ℕ) → q ≤ n → low_bits h bits ≡ replicate q true ++ low_bits (h - q) bits
  low_of_run n j e within close q l =
      let k = 64 - h in
      let v = bits % 2 ^ h in
      let high = (bits * 2 ^ k) % 2 ^ 64 in
      let below : high < 2 ^ 64 = mod_below (bits * 2 ^ k) (2 ^ 64) (pow_pos 64) in
      let place : k + (h - q) ≡ 64 - q = omega arith in
      let wide = pow_mono {i = suc j} {j = 64 - q} (omega arith) in
      let ones : v / 2 ^ (h - q) ≡ 2 ^ q - 1 =
      sym (shifted_high v k (h - q)) ∙ ap₂ (λ (m : ℕ) (w : ℕ). m / 2 ^ w) (sym high_is) place ∙ top_ones high q (64 - q) (omega arith) below (omega arith) in
      sym (low_bits-mod h bits)
      ∙ held_split h q v (omega arith)
      ∙ ap₂ (λ (x : List Bool) (y : List Bool). x ++ y) (ap (low_bits q) ones ∙ low_bits-ones q) (low_bits-mod_more (h - q) h bits (omega arith))

  zero_of_run : (n j : ℕ) → n + suc j ≡ 64 → n < h → 2 ^ 64 ≤ (bits * 2 ^ (64 - h)) % 2 ^ 64 + 2 ^ suc j → (bits * 2 ^ (64 - h)) % 2 ^ 64 + 2 ^ j < 2 ^ 64 → low_bits (h - n) bits ≡ false ∷ low_bits (h - n - 1) bits
  unfolding low_bits
  zero_of_run n j e within close apart =
      let k = 64 - h in
      let v = bits % 2 ^ h in
      let i = h - n - 1 in
      let high = (bits * 2 ^ k) % 2 ^ 64 in
      let below : high < 2 ^ 64 = mod_below (bits * 2 ^ k) (2 ^ 64) (pow_pos 64) in
      let place : k + i ≡ j = omega arith in
      let length : h - n ≡ suc i = omega arith in
      let bit : bit_at v i ≡ 0 =
      ap (λ (m : ℕ). m % 2) (sym (shifted_high v k i) ∙ ap₂ (λ (m : ℕ) (w : ℕ). m / 2 ^ w) (sym high_is) place) ∙ zero_behind high n j e below close apart in
      let moved : low_bits (suc i) bits ≡ low_bits (suc i) v = sym (low_bits-mod_more (suc i) h bits (omega arith)) in
      ap (λ (m : ℕ). low_bits m bits) length
      ∙ moved
      ∙ ap₂ (λ (b : ℕ) (x : List Bool). (b == 1) ∷ x) bit (low_bits-mod_more i h bits (omega arith))

  pub has_run : HasRun bits h (count_leading_zeros 64 (18446744073709551615 - (bits * 2 ^ (64 - h)) % 2 ^ 64))
  has_run =
      let k = 64 - h in
      let high = (bits * 2 ^ k) % 2 ^ 64 in
      let a = 18446744073709551615 - high in
      let below : high < 2 ^ 64 = mod_below (bits * 2 ^ k) (2 ^ 64) (pow_pos 64) in
      let gap = high_gap in
      let two = pow_mono {i = 1} {j = k} (omega arith) in
      let top = leading_top 64 a (omega arith) (omega arith) in
      let j = top.0 in
      let n = count_leading_zeros 64 a in
      let e : n + suc j ≡ 64 = top.1 in
      let close : 2 ^ 64 ≤ high + 2 ^ suc j = omega (arith, top.3) in
      let apart : high + 2 ^ j < 2 ^ 64 = omega (arith, top.2) in
      let wide : n ≤ h =
      ⊎_elim
      (λ (l : suc j < k).
      let shorter = pow_mono {i = suc (suc j)} {j = k} (omega arith) in
      let twice = pow_next (suc j) in
      let positive = pow_pos (suc j) in
      absurd (omega arith))
      (λ (l : k ≤ suc j). omega arith)
      (cases_lt (suc j) k) in
      record { within = wide; run = low_of_run n j e wide close; zero = λ l. zero_of_run n j e l close apart }
