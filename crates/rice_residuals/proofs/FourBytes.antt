-- A number that is made of a few bytes has their bits.
use Rattle.std.proofs.Common.{◌≡◌, ℕ, ◌+◌, ◌*◌, ◌<◌, ◌≤◌, Bool, List, [], ◌∷◌, ◌++◌, length, take, get_or, sym, refl, ap, ◌∙◌, arith, append-nil}
use Rattle.rice_residuals.specs.Bits.{low_bits, bits_of_bytes}
use Rattle.rice_residuals.proofs.LowBits.{low_bits-append}
use Rattle.rice_residuals.proofs.ByteBits.{bits_of_bytes-cons, bits_of_bytes-nil}

pub bits_of_one : (a : ℕ) → low_bits 8 a ≡ bits_of_bytes (a ∷ [])
bits_of_one a = sym (bits_of_bytes-cons a [] ∙ ap (λ (x : List Bool). low_bits 8 a ++ x) bits_of_bytes-nil ∙ append-nil (low_bits 8 a))

pub bits_of_two : (a b n : ℕ) → b < 256 → n ≡ a * 256 + b → low_bits 16 n ≡ bits_of_bytes (a ∷ b ∷ [])
bits_of_two a b n q e =
    ap (low_bits 16) e
    ∙ low_bits-append 8 8 a b q
    ∙ ap (λ (x : List Bool). low_bits 8 a ++ x) (bits_of_one b)
    ∙ sym (bits_of_bytes-cons a (b ∷ []))

pub bits_of_three : (a b c n : ℕ) → b < 256 → c < 256 → n ≡ a * 65536 + b * 256 + c → low_bits 24 n ≡ bits_of_bytes (a ∷ b ∷ c ∷ [])
bits_of_three a b c n q r e =
    let parts : n ≡ a * 65536 + (b * 256 + c) = omega arith in
    ap (low_bits 24) parts
    ∙ low_bits-append 8 16 a (b * 256 + c) (omega arith)
    ∙ ap (λ (x : List Bool). low_bits 8 a ++ x) (bits_of_two b c (b * 256 + c) r refl)
    ∙ sym (bits_of_bytes-cons a (b ∷ c ∷ []))

pub bits_of_four : (a b c d n : ℕ) → b < 256 → c < 256 → d < 256 → n ≡ a * 16777216 + b * 65536 + c * 256 + d → low_bits 32 n ≡ bits_of_bytes (a ∷ b ∷ c ∷ d ∷ [])
bits_of_four a b c d n q r s e =
    let parts : n ≡ a * 16777216 + (b * 65536 + c * 256 + d) = omega arith in
    ap (low_bits 32) parts
    ∙ low_bits-append 8 24 a (b * 65536 + c * 256 + d) (omega arith)
    ∙ ap (λ (x : List Bool). low_bits 8 a ++ x) (bits_of_three b c d (b * 65536 + c * 256 + d) r s refl)
    ∙ sym (bits_of_bytes-cons a (b ∷ c ∷ d ∷ []))

pub front_one : (bs : List ℕ) (n : ℕ) → 1 ≤ length bs → n ≡ get_or bs 0 0 → low_bits 8 n ≡ bits_of_bytes (take 1 bs)
front_one [] n l e = absurd (omega arith)
front_one (a ∷ bs) n l e = ap (low_bits 8) e ∙ bits_of_one a

pub front_two : (bs : List ℕ) (n : ℕ) → 2 ≤ length bs → get_or bs 1 0 < 256 → n ≡ get_or bs 0 0 * 256 + get_or bs 1 0 → low_bits 16 n ≡ bits_of_bytes (take 2 bs)
front_two [] n l p e = absurd (omega arith)
front_two (a ∷ []) n l p e = absurd (omega arith)
front_two (a ∷ b ∷ bs) n l p e = bits_of_two a b n p e

pub front_three : (bs : List ℕ) (n : ℕ) → 3 ≤ length bs → get_or bs 1 0 < 256 → get_or bs 2 0 < 256 → n ≡ get_or bs 0 0 * 65536 + get_or bs 1 0 * 256 + get_or bs 2 0 → low_bits 24 n ≡ bits_of_bytes (take 3 bs)
front_three [] n l p q e = absurd (omega arith)
front_three (a ∷ []) n l p q e = absurd (omega arith)
front_three (a ∷ b ∷ []) n l p q e = absurd (omega arith)
front_three (a ∷ b ∷ c ∷ bs) n l p q e = bits_of_three a b c n p q e

pub front_four : (bs : List ℕ) (n : ℕ) → 4 ≤ length bs → get_or bs 1 0 < 256 → get_or bs 2 0 < 256 → get_or bs 3 0 < 256 → n ≡ get_or bs 0 0 * 16777216 + get_or bs 1 0 * 65536 + get_or bs 2 0 * 256 + get_or bs 3 0 → low_bits 32 n ≡ bits_of_bytes (take 4 bs)
front_four [] n l p q r e = absurd (omega arith)
front_four (a ∷ []) n l p q r e = absurd (omega arith)
front_four (a ∷ b ∷ []) n l p q r e = absurd (omega arith)
front_four (a ∷ b ∷ c ∷ []) n l p q r e = absurd (omega arith)
front_four (a ∷ b ∷ c ∷ d ∷ bs) n l p q r e = bits_of_four a b c d n p q r e
