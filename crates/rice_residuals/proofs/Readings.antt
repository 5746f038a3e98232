-- What a reader has left, by its register.
use Rattle.std.proofs.Common.{◌≡◌, ◌⊎◌, ℕ, ◌+◌, ◌-◌, ◌*◌, ◌/◌, ◌%◌, ◌^◌, ◌<◌, ◌≤◌, Bool, List, ◌++◌, length, drop, bit_and, sym, refl, ap, ap₂, ◌∙◌, inl, inr, arith, append_assoc, length-append, length-drop}
use Rattle.std.proofs.lemmas.Nat.{and_mask, one_shl}
use Rattle.rice_residuals.specs.Bits.{low_bits, bits_of_bytes}
use Rattle.rice_residuals.specs.Reading.{Reading, reading, IsSound}
use Rattle.rice_residuals.specs.declared.register.Register.{Register}
use Rattle.rice_residuals.proofs.LowBits.{length-low_bits, low_bits-split, low_bits-mod}
use Rattle.rice_residuals.proofs.ByteBits.{length-bits_of_bytes}

pub length_left : (bytes : List ℕ) (r : Register) → length (reading bytes r).left ≡ r.held + 8 * (length bytes - r.next)
unfolding reading
length_left bytes r =
    length-append (low_bits r.held r.bits) (bits_of_bytes (drop r.next bytes))
    ∙ ap₂ (λ (m : ℕ) (n : ℕ). m + n) (length-low_bits r.held r.bits) (length-bits_of_bytes (drop r.next bytes) ∙ ap (λ (n : ℕ). 8 * n) (length-drop r.next bytes))

pub reading_place : (bytes : List ℕ) (r : Register) → (reading bytes r).place ≡ 8 * r.next - r.held
unfolding reading
reading_place bytes r = refl

pub reading_left : (bytes : List ℕ) (r : Register) → (reading bytes r).left ≡ low_bits r.held r.bits ++ bits_of_bytes (drop r.next bytes)
unfolding reading
reading_left bytes r = refl

pub reading_end : (bytes : List ℕ) (r : Register) (now : Reading) → IsSound bytes r → reading bytes r ≡ now → now.place + length now.left ≡ 8 * length bytes
reading_end bytes r now s e =
    let begun = s.begun in
    let next = s.next in
    omega (arith, ap (λ (x : Reading). x.place) e, ap (λ (x : Reading). length x.left) e, reading_place bytes r, length_left bytes r)

pub too_few : (bytes : List ℕ) (r : Register) (now : Reading) (count : ℕ) → reading bytes r ≡ now → r.held < count → (count ≤ r.held) ⊎ (r.next ≡ length bytes) → length now.left < count
too_few bytes r now count e few enough =
    let l : length now.left ≡ r.held + 8 * (length bytes - r.next) = sym (ap (λ (x : Reading). length x.left) e) ∙ length_left bytes r in
    elim enough [ inl h ↦ absurd (omega arith) | inr h ↦ omega arith ]

pub not_too_few : (bytes : List ℕ) (r : Register) (now : Reading) (count : ℕ) → reading bytes r ≡ now → count ≤ r.held → length now.left < count → ⊥
not_too_few bytes r now count e enough few =
    let l : length now.left ≡ r.held + 8 * (length bytes - r.next) = sym (ap (λ (x : Reading). length x.left) e) ∙ length_left bytes r in
    omega arith

-- the register with fewer bits held
abbrev pub shorter : Register → ℕ → Register
shorter r held = record { next = r.next; bits = r.bits; held = held }

-- the high bits that are held, and then the others
pub held_split : (held count bits : ℕ) → count ≤ held → low_bits held bits ≡ low_bits count (bits / 2 ^ (held - count)) ++ low_bits (held - count) bits
held_split held count bits h =
    let e : held ≡ count + (held - count) = omega arith in
    ap (λ (m : ℕ). low_bits m bits) e
    ∙ low_bits-split count (held - count) bits
    ∙ ap (λ (x : List Bool). low_bits count (bits / 2 ^ (held - count)) ++ x) (low_bits-mod (held - count) bits)

pub taken_left : (bytes : List ℕ) (r : Register) (now : Reading) (count held value : ℕ) → reading bytes r ≡ now → count ≤ r.held → held ≡ r.held - count → value ≡ (r.bits / 2 ^ held) % 2 ^ count → now.left ≡ low_bits count value ++ (reading bytes (shorter r held)).left
unfolding reading
taken_left bytes r now count held value e enough h v =
    let rest = bits_of_bytes (drop r.next bytes) in
    let bits : low_bits r.held r.bits ≡ low_bits count value ++ low_bits held r.bits =
    held_split r.held count r.bits enough
    ∙ ap₂ (λ (x : List Bool) (m : ℕ). x ++ low_bits m r.bits) (ap (λ (m : ℕ). low_bits count (r.bits / 2 ^ m)) (sym h) ∙ sym (low_bits-mod count (r.bits / 2 ^ held)) ∙ ap (low_bits count) (sym v)) (sym h) in
    sym (ap (λ (x : Reading). x.left) e) ∙ ap (λ (x : List Bool). x ++ rest) bits ∙ append_assoc (low_bits count value) (low_bits held r.bits) rest

pub taken_place : (bytes : List ℕ) (r : Register) (now : Reading) (count held : ℕ) → IsSound bytes r → reading bytes r ≡ now → count ≤ r.held → held ≡ r.held - count → (reading bytes (shorter r held)).place ≡ now.place + count
unfolding reading
taken_place bytes r now count held s e enough h =
    let begun = s.begun in
    let p : now.place ≡ 8 * r.next - r.held = sym (ap (λ (x : Reading). x.place) e) in
    omega arith

pub mask_low : (bits count : ℕ) → count ≤ 32 → bit_and bits ((1 * 2 ^ count) % 18446744073709551616 - 1) ≡ bits % 2 ^ count
mask_low bits count h =
    ap (λ (m : ℕ). bit_and bits (m - 1)) (one_shl count 64 (omega arith)) ∙ and_mask bits count

-- ---- runs of ones
