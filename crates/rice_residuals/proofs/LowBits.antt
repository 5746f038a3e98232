-- The bits of numbers: of a sum with a shifted part, and back to the number.
use Rattle.std.proofs.Common.{◌≡◌, ℕ, zero, suc, ◌+◌, ◌-◌, ◌*◌, ◌/◌, ◌%◌, ◌^◌, ◌<◌, ◌≤◌, Bool, true, false, List, [], ◌∷◌, ◌++◌, length, replicate, if◌then◌else◌, ◌==◌, sym, refl, ap, ap₂, ◌∙◌, arith, suc-add, mod-eq_of_lt, pow_pos}
use Rattle.std.specs.Int.{bit_at}
use Rattle.std.proofs.lemmas.Nat.{shr_split, mod_below, mod-pow-add, pow-add}
use Rattle.std.proofs.lemmas.Nat.Bits.{bit_at_cat_low, bit_at_cat_high, bit_at-zero, bit_at_ones, bit_at-lt}
use Rattle.std.proofs.lemmas.Bool.Decides.{nat_tests}
use Rattle.rice_residuals.specs.Bits.{low_bits, number_of}

pub length-low_bits : (k n : ℕ) → length (low_bits k n) ≡ k
unfolding low_bits
length-low_bits zero n = refl
length-low_bits (suc k) n = ap suc (length-low_bits k n)

-- numbers whose low bits agree
pub low_bits-same : (k m n : ℕ) → ((i : ℕ) → i < k → bit_at m i ≡ bit_at n i) → low_bits k m ≡ low_bits k n
unfolding low_bits
low_bits-same zero m n h = refl
low_bits-same (suc k) m n h =
    ap₂ (λ (b : ℕ) (bits : List Bool). (b == 1) ∷ bits) (h k (omega arith)) (low_bits-same k m n (λ i l. h i (omega arith)))

-- the bits of a shifted number with a smaller one in its low bits
pub low_bits-append : (j k a b : ℕ) → b < 2 ^ k → low_bits (j + k) (a * 2 ^ k + b) ≡ low_bits j a ++ low_bits k b
unfolding low_bits
low_bits-append zero k a b h =
    ap (λ c. low_bits c (a * 2 ^ k + b)) (omega arith) ∙ low_bits-same k (a * 2 ^ k + b) b (λ i l. bit_at_cat_low a k b i l)
low_bits-append (suc j) k a b h =
    let head : bit_at (a * 2 ^ k + b) (j + k) ≡ bit_at a j = bit_at_cat_high a k b (j + k) h (omega arith) ∙ ap (bit_at a) (omega arith) in
    ap (λ c. low_bits c (a * 2 ^ k + b)) (suc-add j k)
    ∙ ap₂ (λ (c : ℕ) (bits : List Bool). (c == 1) ∷ bits) head (low_bits-append j k a b h)

-- the bits of a number, the high ones and then the low ones
pub low_bits-split : (j k n : ℕ) → low_bits (j + k) n ≡ low_bits j (n / 2 ^ k) ++ low_bits k (n % 2 ^ k)
low_bits-split j k n =
    ap (low_bits (j + k)) (sym (shr_split n k)) ∙ low_bits-append j k (n / 2 ^ k) (n % 2 ^ k) (mod_below n (2 ^ k) (pow_pos k))

pub low_bits-mod : (k n : ℕ) → low_bits k (n % 2 ^ k) ≡ low_bits k n
unfolding low_bits
low_bits-mod k n = sym (ap (λ c. low_bits c n) (omega arith) ∙ low_bits-split 0 k n)

pub low_bits-zero : (k : ℕ) → low_bits k 0 ≡ replicate k false
unfolding low_bits
low_bits-zero zero = refl
low_bits-zero (suc k) = ap₂ (λ (b : ℕ) (bits : List Bool). (b == 1) ∷ bits) (bit_at-zero k) (low_bits-zero k)

low_bits_of_ones : (j k : ℕ) → j ≤ k → low_bits j (2 ^ k - 1) ≡ replicate j true
unfolding low_bits
low_bits_of_ones zero k h = refl
low_bits_of_ones (suc j) k h =
    ap₂ (λ (b : ℕ) (bits : List Bool). (b == 1) ∷ bits) (bit_at_ones k j (omega arith)) (low_bits_of_ones j k (omega arith))

pub low_bits-ones : (k : ℕ) → low_bits k (2 ^ k - 1) ≡ replicate k true
low_bits-ones k = low_bits_of_ones k k (omega arith)

-- a bit that is 1 is worth m
bit_worth : (b m : ℕ) → b < 2 → (if b == 1 then m else 0) ≡ b * m
bit_worth b m h = grind (arith, nat_tests)

-- one more low bit
mod_next : (n k : ℕ) → n % 2 ^ suc k ≡ bit_at n k * 2 ^ k + n % 2 ^ k
mod_next n k = ap (λ c. n % 2 ^ c) (omega arith) ∙ mod-pow-add n 1 k

pub number_of-low_bits : (k n : ℕ) → number_of (low_bits k n) ≡ n % 2 ^ k
unfolding low_bits number_of
number_of-low_bits zero n = omega arith
number_of-low_bits (suc k) n =
    ap₂ (λ (l : ℕ) (m : ℕ). (if bit_at n k == 1 then 2 ^ l else 0) + m) (length-low_bits k n) (number_of-low_bits k n)
    ∙ ap (λ (m : ℕ). m + n % 2 ^ k) (bit_worth (bit_at n k) (2 ^ k) (bit_at-lt n k))
    ∙ sym (mod_next n k)

-- numbers of k bits with the same bits
pub low_bits-injective : (k a b : ℕ) → a < 2 ^ k → b < 2 ^ k → low_bits k a ≡ low_bits k b → a ≡ b
low_bits-injective k a b p q e =
    sym (mod-eq_of_lt p) ∙ sym (number_of-low_bits k a) ∙ ap number_of e ∙ number_of-low_bits k b ∙ mod-eq_of_lt q

pub pow_next : (k : ℕ) → 2 ^ suc k ≡ 2 * 2 ^ k
pow_next k = ap (λ (m : ℕ). 2 ^ m) (omega arith) ∙ pow-add 2 1 k

pub number_of_below : (bits : List Bool) → number_of bits < 2 ^ length bits
unfolding number_of
number_of_below [] = omega arith
number_of_below (true ∷ bits) = let h = number_of_below bits in let e = pow_next (length bits) in omega arith
number_of_below (false ∷ bits) = let h = number_of_below bits in let e = pow_next (length bits) in omega arith

pub low_bits-number_of : (bits : List Bool) → low_bits (length bits) (number_of bits) ≡ bits
unfolding low_bits number_of
low_bits-number_of [] = refl
low_bits-number_of (true ∷ bits) =
    let l : suc (length bits) ≡ 1 + length bits = omega arith in
    let e : 2 ^ length bits + number_of bits ≡ 1 * 2 ^ length bits + number_of bits = omega arith in
    ap₂ (λ (l : ℕ) (m : ℕ). low_bits l m) l e
    ∙ low_bits-append 1 (length bits) 1 (number_of bits) (number_of_below bits)
    ∙ ap (λ (rest : List Bool). true ∷ rest) (low_bits-number_of bits)
low_bits-number_of (false ∷ bits) =
    let l : suc (length bits) ≡ 1 + length bits = omega arith in
    let e : 0 + number_of bits ≡ 0 * 2 ^ length bits + number_of bits = omega arith in
    ap₂ (λ (l : ℕ) (m : ℕ). low_bits l m) l e
    ∙ low_bits-append 1 (length bits) 0 (number_of bits) (number_of_below bits)
    ∙ ap (λ (rest : List Bool). false ∷ rest) (low_bits-number_of bits)
