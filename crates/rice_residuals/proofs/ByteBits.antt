-- The bits of bytes, and bits packed into bytes.
use Rattle.std.proofs.Common.{◌≡◌, ℕ, zero, suc, ◌+◌, ◌-◌, ◌*◌, ◌/◌, ◌^◌, ◌<◌, ◌≤◌, Bool, false, List, [], ◌∷◌, ◌++◌, length, take, drop, get_or, replicate, sym, refl, ap, ap₂, ◌∙◌, ⊎_elim, arith, length-append, append_assoc, pow-add, w32, pow_mono}
use Rattle.std.specs.Int.{bytes_high_first, to_be_bytes, byte_at}
use Rattle.std.proofs.lemmas.Bool.{cases_lt}
use Rattle.std.proofs.lemmas.List.{take-append-drop, length-take-le, length-take, length-drop, length-replicate, drop_all, take-append-le, take_at, append_cancel_left, replicate-append-replicate}
use Rattle.std.proofs.lemmas.List.Concat.{flat_map-append}
use Rattle.rice_residuals.specs.Bits.{low_bits, number_of, bits_of_bytes, bytes_of, packed}
use Rattle.rice_residuals.proofs.LowBits.{length-low_bits, low_bits-split, low_bits-mod, low_bits-injective, number_of_below, low_bits-number_of}

pub bits_of_bytes-append : (xs ys : List ℕ) → bits_of_bytes (xs ++ ys) ≡ bits_of_bytes xs ++ bits_of_bytes ys
unfolding bits_of_bytes
bits_of_bytes-append xs ys = flat_map-append (low_bits 8) xs ys

pub bits_of_bytes-nil : bits_of_bytes [] ≡ []
unfolding bits_of_bytes
bits_of_bytes-nil = refl

pub bits_of_bytes-cons : (x : ℕ) (xs : List ℕ) → bits_of_bytes (x ∷ xs) ≡ low_bits 8 x ++ bits_of_bytes xs
unfolding bits_of_bytes
bits_of_bytes-cons x xs = refl

pub length-bits_of_bytes : (xs : List ℕ) → length (bits_of_bytes xs) ≡ 8 * length xs
length-bits_of_bytes [] = ap length bits_of_bytes-nil
length-bits_of_bytes (x ∷ xs) =
    ap length (bits_of_bytes-cons x xs)
    ∙ length-append (low_bits 8 x) (bits_of_bytes xs)
    ∙ ap₂ (λ (m : ℕ) (n : ℕ). m + n) (length-low_bits 8 x) (length-bits_of_bytes xs)
    ∙ omega arith

pow_256 : (k : ℕ) → 256 ^ k ≡ 2 ^ (8 * k)
pow_256 zero = refl
pow_256 (suc k) =
    let e : suc k ≡ 1 + k = omega arith in
    let f : 8 + 8 * k ≡ 8 * suc k = omega arith in
    ap (λ (m : ℕ). 256 ^ m) e
    ∙ pow-add 256 1 k
    ∙ ap (λ (m : ℕ). 256 * m) (pow_256 k)
    ∙ sym (pow-add 2 8 (8 * k))
    ∙ ap (λ (m : ℕ). 2 ^ m) f

byte_bits : (k n : ℕ) → low_bits 8 (byte_at k n) ≡ low_bits 8 (n / 2 ^ (8 * k))
byte_bits zero n = low_bits-mod 8 n ∙ ap (low_bits 8) (omega arith)
byte_bits (suc k) n = low_bits-mod 8 (n / 256 ^ suc k) ∙ ap (λ (m : ℕ). low_bits 8 (n / m)) (pow_256 (suc k))

pub bits_of_bytes-high_first : (k n : ℕ) → bits_of_bytes (bytes_high_first k n) ≡ low_bits (8 * k) n
unfolding low_bits
bits_of_bytes-high_first zero n = bits_of_bytes-nil
bits_of_bytes-high_first (suc k) n =
    bits_of_bytes-cons (byte_at k n) (bytes_high_first k n)
    ∙ ap₂ (λ (a : List Bool) (b : List Bool). a ++ b) (byte_bits k n) (bits_of_bytes-high_first k n ∙ sym (low_bits-mod (8 * k) n))
    ∙ sym (low_bits-split 8 (8 * k) n)
    ∙ ap (λ (m : ℕ). low_bits m n) (omega arith)

pub bits_of_bytes-to_be : (n : ℕ) → bits_of_bytes (to_be_bytes w32 n) ≡ low_bits 32 n
bits_of_bytes-to_be n = bits_of_bytes-high_first 4 n

-- lists that begin with so many equal elements, and go on equally
pub append_parts : {A : Type 0} (a b c d : List A) → length a ≡ length c → a ++ b ≡ c ++ d → (a ≡ c) × (b ≡ d)
append_parts a b c d l e =
    let fronts : a ≡ c = sym (take_at a b (length a) refl) ∙ ap (take (length a)) e ∙ take_at c d (length a) (sym l) in
    (fronts, append_cancel_left c b d (ap (λ (x : List _). x ++ b) (sym fronts) ∙ e))

-- bytes with the same bits
pub same_bytes : (xs ys : List ℕ) → ((k : ℕ) → get_or xs k 0 < 256) → ((k : ℕ) → get_or ys k 0 < 256) → bits_of_bytes xs ≡ bits_of_bytes ys → xs ≡ ys
same_bytes [] [] p q e = refl
same_bytes [] (y ∷ ys) p q e =
    absurd (let l = ap length e in omega (arith, length-bits_of_bytes [], length-bits_of_bytes (y ∷ ys)))
same_bytes (x ∷ xs) [] p q e =
    absurd (let l = ap length e in omega (arith, length-bits_of_bytes [], length-bits_of_bytes (x ∷ xs)))
same_bytes (x ∷ xs) (y ∷ ys) p q e =
    let parts = append_parts (low_bits 8 x) (bits_of_bytes xs) (low_bits 8 y) (bits_of_bytes ys) (length-low_bits 8 x ∙ sym (length-low_bits 8 y)) (sym (bits_of_bytes-cons x xs) ∙ e ∙ bits_of_bytes-cons y ys) in
    ap₂ (λ (z : ℕ) (zs : List ℕ). z ∷ zs) (low_bits-injective 8 x y (p 0) (q 0) parts.0) (same_bytes xs ys (λ k. p (suc k)) (λ k. q (suc k)) parts.1)

-- the bits of a byte that is made of eight bits
made_byte : (bits : List Bool) → length bits ≡ 8 → low_bits 8 (number_of bits) ≡ bits
made_byte bits l = ap (λ (m : ℕ). low_bits m (number_of bits)) (sym l) ∙ low_bits-number_of bits

bytes_of_full : (n : ℕ) (bits : List Bool) → 8 ≤ length bits → bits_of_bytes (bytes_of (suc n) bits) ≡ take 8 bits ++ bits_of_bytes (bytes_of n (drop 8 bits))
unfolding bytes_of
bytes_of_full n bits h =
    let front : take 8 (bits ++ replicate 8 false) ≡ take 8 bits = take-append-le 8 bits (replicate 8 false) h in
    bits_of_bytes-cons (number_of (take 8 (bits ++ replicate 8 false))) (bytes_of n (drop 8 bits))
    ∙ ap (λ (x : List Bool). x ++ bits_of_bytes (bytes_of n (drop 8 bits))) (ap (λ (x : List Bool). low_bits 8 (number_of x)) front ∙ made_byte (take 8 bits) (length-take-le 8 bits h))

filled_byte : (bits : List Bool) → length bits < 8 → take 8 (bits ++ replicate 8 false) ≡ bits ++ replicate (8 - length bits) false
filled_byte bits h =
    let l = length bits in
    let e : (8 - l) + l ≡ 8 = omega arith in
    let zeros : replicate 8 false ≡ replicate (8 - l) false ++ replicate l false = ap (λ (n : ℕ). replicate n false) (sym e) ∙ sym (replicate-append-replicate (8 - l) l false) in
    let front : length (bits ++ replicate (8 - l) false) ≡ 8 = omega (arith, length-append bits (replicate (8 - l) false), length-replicate (8 - l) false) in
    ap (λ (z : List Bool). take 8 (bits ++ z)) zeros
    ∙ ap (take 8) (sym (append_assoc bits (replicate (8 - l) false) (replicate l false)))
    ∙ take_at (bits ++ replicate (8 - l) false) (replicate l false) 8 front

bytes_of_none : (n : ℕ) → bits_of_bytes (bytes_of n []) ≡ replicate (8 * n) false
unfolding bytes_of
bytes_of_none zero = bits_of_bytes-nil
bytes_of_none (suc n) =
    let e : 8 + 8 * n ≡ 8 * suc n = omega arith in
    bits_of_bytes-cons (number_of (replicate 8 false)) (bytes_of n [])
    ∙ ap₂ (λ (a : List Bool) (b : List Bool). a ++ b) (made_byte (replicate 8 false) refl) (bytes_of_none n)
    ∙ replicate-append-replicate 8 (8 * n) false
    ∙ ap (λ (m : ℕ). replicate m false) e

bytes_of_part : (n : ℕ) (bits : List Bool) → length bits < 8 → bits_of_bytes (bytes_of (suc n) bits) ≡ bits ++ replicate (8 * suc n - length bits) false
unfolding bytes_of
bytes_of_part n bits h =
    let l = length bits in
    let none : drop 8 bits ≡ [] = drop_all 8 bits (omega arith) in
    let whole : length (bits ++ replicate (8 - l) false) ≡ 8 = omega (arith, length-append bits (replicate (8 - l) false), length-replicate (8 - l) false) in
    let e : (8 - l) + 8 * n ≡ 8 * suc n - l = omega arith in
    bits_of_bytes-cons (number_of (take 8 (bits ++ replicate 8 false))) (bytes_of n (drop 8 bits))
    ∙ ap₂ (λ (a : List Bool) (b : List Bool). low_bits 8 (number_of a) ++ bits_of_bytes (bytes_of n b)) (filled_byte bits h) none
    ∙ ap₂ (λ (a : List Bool) (b : List Bool). a ++ b) (made_byte (bits ++ replicate (8 - l) false) whole) (bytes_of_none n)
    ∙ append_assoc bits (replicate (8 - l) false) (replicate (8 * n) false)
    ∙ ap (λ (z : List Bool). bits ++ z) (replicate-append-replicate (8 - l) (8 * n) false ∙ ap (λ (m : ℕ). replicate m false) e)

pub bits_of_bytes_of : (n : ℕ) (bits : List Bool) → length bits ≤ 8 * n → bits_of_bytes (bytes_of n bits) ≡ bits ++ replicate (8 * n - length bits) false
unfolding bytes_of
bits_of_bytes_of zero [] h = bits_of_bytes-nil
bits_of_bytes_of zero (b ∷ bits) h = absurd (omega arith)
bits_of_bytes_of (suc n) bits h =
    ⊎_elim
    (λ (l : length bits < 8). bytes_of_part n bits l)
    (λ (l : 8 ≤ length bits).
    let rest : length (drop 8 bits) ≡ length bits - 8 = length-drop 8 bits in
    let e : 8 * n - length (drop 8 bits) ≡ 8 * suc n - length bits = omega arith in
    bytes_of_full n bits l
    ∙ ap (λ (z : List Bool). take 8 bits ++ z) (bits_of_bytes_of n (drop 8 bits) (omega arith))
    ∙ sym (append_assoc (take 8 bits) (drop 8 bits) (replicate (8 * n - length (drop 8 bits)) false))
    ∙ ap₂ (λ (a : List Bool) (m : ℕ). a ++ replicate m false) (take-append-drop 8 bits) e)
    (cases_lt (length bits) 8)

bytes_of_below : (n : ℕ) (bits : List Bool) (k : ℕ) → get_or (bytes_of n bits) k 0 < 256
unfolding bytes_of
bytes_of_below zero bits k = omega arith
bytes_of_below (suc n) bits zero =
    let front = take 8 (bits ++ replicate 8 false) in
    let l : length front ≤ 8 = omega (arith, length-take 8 (bits ++ replicate 8 false)) in
    omega (arith, number_of_below front, pow_mono {i = length front} {j = 8} l)
bytes_of_below (suc n) bits (suc k) = bytes_of_below n (drop 8 bits) k

-- how many zeros fill the last byte
pub padding_of : List Bool → ℕ
padding_of bits = 8 * ((length bits + 7) / 8) - length bits

pub padding_below : (bits : List Bool) → padding_of bits < 8
unfolding padding_of
padding_below bits = omega arith

-- packed bits are those bits and fewer than eight zeros
pub bits_of_bytes-packed : (bits : List Bool) → bits_of_bytes (packed bits) ≡ bits ++ replicate (padding_of bits) false
unfolding packed padding_of
bits_of_bytes-packed bits = bits_of_bytes_of ((length bits + 7) / 8) bits (omega arith)

pub packed_below : (bits : List Bool) (k : ℕ) → get_or (packed bits) k 0 < 256
unfolding packed
packed_below bits k = bytes_of_below ((length bits + 7) / 8) bits k

-- bytes that have those bits and fewer than eight zeros are the packed bits
pub packed_from_bits : (bytes : List ℕ) (bits : List Bool) (p : ℕ) → ((k : ℕ) → get_or bytes k 0 < 256) → p < 8 → bits_of_bytes bytes ≡ bits ++ replicate p false → bytes ≡ packed bits
packed_from_bits bytes bits p below few e =
    let q = padding_of bits in
    let f = bits_of_bytes-packed bits in
    let same : p ≡ q =
    omega (arith, ap length e, ap length f, length-append bits (replicate p false), length-append bits (replicate q false), length-replicate p false, length-replicate q false, length-bits_of_bytes bytes, length-bits_of_bytes (packed bits), padding_below bits) in
    same_bytes bytes (packed bits) below (packed_below bits) (e ∙ ap (λ (m : ℕ). bits ++ replicate m false) same ∙ sym f)
