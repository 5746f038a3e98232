-- What stands behind the last code: padding, a one in it, or whole bytes.
use Rattle.std.proofs.Common.{◌≡◌, ℕ, suc, ◌+◌, ◌-◌, ◌*◌, ◌/◌, ◌%◌, ◌^◌, ◌<◌, ◌≤◌, Bool, true, false, List, [], ◌∷◌, ◌++◌, length, replicate, ◌==◌, refl, ap, ap₂, ◌∙◌, ⊎_elim, arith, append_assoc, append-nil, length-append, pow_mono}
use Rattle.std.specs.Int.Count.{count_leading_zeros}
use Rattle.std.proofs.lemmas.Bool.{cases_lt}
use Rattle.std.proofs.lemmas.Nat.{leading_top, div-mul-add}
use Rattle.rice_residuals.specs.Bits.{low_bits}
use Rattle.rice_residuals.specs.Reading.{Reading}
use Rattle.rice_residuals.specs.Faults.{IsBadPadding, IsExcess, IsPadding}
use Rattle.rice_residuals.proofs.LowBits.{length-low_bits, low_bits-zero, pow_next}
use Rattle.rice_residuals.proofs.Readings.{held_split}

-- a number with j digits behind its first one
first_one : (j n : ℕ) → 2 ^ j ≤ n → n < 2 ^ suc j → low_bits (suc j) n ≡ true ∷ low_bits j n
unfolding low_bits
first_one j n low high =
    let next = pow_next j in
    let parts : n ≡ 1 * 2 ^ j + (n - 2 ^ j) = omega arith in
    let quotient : n / 2 ^ j ≡ 1 = ap (λ (m : ℕ). m / 2 ^ j) parts ∙ div-mul-add 1 (2 ^ j) (n - 2 ^ j) (omega arith) in
    ap (λ (m : ℕ). (m % 2 == 1) ∷ low_bits j n) quotient

small_quotient : (i n : ℕ) → n < 2 ^ i → n / 2 ^ i ≡ 0
small_quotient i n h =
    let parts : n ≡ 0 * 2 ^ i + n = omega arith in
    ap (λ (m : ℕ). m / 2 ^ i) parts ∙ div-mul-add 0 (2 ^ i) n h

pub zeros_first : (bits count z : ℕ) → 0 < bits → bits < 2 ^ count → count < 8 → z ≡ count_leading_zeros 32 bits - (32 - count) → (z < count) × (low_bits count bits ≡ replicate z false ++ true ∷ low_bits (count - z - 1) bits) × (32 - count ≤ count_leading_zeros 32 bits)
zeros_first bits count z some below few e =
    let wide = pow_mono {i = count} {j = 32} (omega arith) in
    let top = leading_top 32 bits some (omega arith) in
    let j = top.0 in
    let within : suc j ≤ count =
    ⊎_elim
    (λ (l : count < suc j). let m = pow_mono {i = count} {j = j} (omega arith) in absurd (omega (arith, top.2)))
    (λ (l : suc j ≤ count). l)
    (cases_lt count (suc j)) in
    let zeros : z ≡ count - suc j = omega (arith, top.1) in
    let behind : count - z ≡ suc j = omega arith in
    let after : j ≡ count - z - 1 = omega arith in (
      omega arith,
      held_split count z bits (omega arith)
          ∙ ap (λ (m : ℕ). low_bits z (bits / 2 ^ m) ++ low_bits m bits) behind
          ∙ ap₂ (λ (x : List Bool) (y : List Bool). x ++ y) (ap (low_bits z) (small_quotient (suc j) bits top.3) ∙ low_bits-zero z) (first_one j bits top.2 top.3)
          ∙ ap (λ (m : ℕ). replicate z false ++ true ∷ low_bits m bits) after,
      omega (arith, top.1),
    )

pub bad_padding : (old new : Reading) (padding bits z bad : ℕ) → 0 < old.place → padding ≡ (8 - old.place % 8) % 8 → z < padding → low_bits padding bits ≡ replicate z false ++ true ∷ low_bits (padding - z - 1) bits → old.left ≡ low_bits padding bits ++ new.left → bad ≡ old.place + z → IsBadPadding bad old.place old.left
bad_padding old new padding bits z bad begun p l zeros e f = record {
  zeros = z;
  first = f;
  begun = omega arith;
  after = low_bits (padding - z - 1) bits ++ new.left;
  spelled = e ∙ ap (λ (x : List Bool). x ++ new.left) zeros ∙ append_assoc (replicate z false) (true ∷ low_bits (padding - z - 1) bits) new.left;
}

zeros_left : (old new : Reading) (padding bits : ℕ) → bits ≡ 0 → old.left ≡ low_bits padding bits ++ new.left → old.left ≡ replicate padding false ++ new.left
zeros_left old new padding bits none e = e ∙ ap (λ (x : List Bool). x ++ new.left) (ap (low_bits padding) none ∙ low_bits-zero padding)

pub whole_left : (old new : Reading) (padding bits : ℕ) → (old.place + length old.left) % 8 ≡ 0 → padding ≡ (8 - old.place % 8) % 8 → old.left ≡ low_bits padding bits ++ new.left → length new.left % 8 ≡ 0
whole_left old new padding bits whole p e =
    omega (arith, ap length e, length-append (low_bits padding bits) new.left, length-low_bits padding bits)

pub excess : (old new : Reading) (padding bits bytes : ℕ) → (old.place + length old.left) % 8 ≡ 0 → padding ≡ (8 - old.place % 8) % 8 → bits ≡ 0 → old.left ≡ low_bits padding bits ++ new.left → new.place ≡ old.place + padding → bytes ≡ (old.place + length old.left - new.place) / 8 → 0 < bytes → IsExcess bytes old.left
excess old new padding bits bytes whole p none e place n some =
    let left = whole_left old new padding bits whole p e in
    record {
      some = some;
      zeros = padding;
      few = omega arith;
      after = new.left;
      whole = omega (arith, ap length e, length-append (low_bits padding bits) new.left, length-low_bits padding bits);
      spelled = zeros_left old new padding bits none e;
    }

pub padding_only : (old new : Reading) (padding bits bytes : ℕ) → (old.place + length old.left) % 8 ≡ 0 → padding ≡ (8 - old.place % 8) % 8 → bits ≡ 0 → old.left ≡ low_bits padding bits ++ new.left → new.place ≡ old.place + padding → bytes ≡ (old.place + length old.left - new.place) / 8 → bytes ≡ 0 → IsPadding old.left
padding_only old new padding bits bytes whole p none e place n all =
    let left = whole_left old new padding bits whole p e in
    let l : length new.left ≡ 0 = omega (arith, ap length e, length-append (low_bits padding bits) new.left, length-low_bits padding bits) in
    (padding, omega arith, zeros_left old new padding bits none e ∙ ap (λ (x : List Bool). replicate padding false ++ x) (empty new.left l) ∙ append-nil (replicate padding false))
  where
    empty : (x : List Bool) → length x ≡ 0 → x ≡ []
    empty [] e = refl
    empty (b ∷ x) e = absurd (omega arith)
