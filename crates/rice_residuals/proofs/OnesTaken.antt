-- What a reader has left once a run of ones is taken.
use Rattle.std.proofs.Common.{◌≡◌, ◌⊎◌, ℕ, ◌+◌, ◌-◌, ◌<◌, ◌≤◌, Bool, true, false, List, [], ◌∷◌, ◌++◌, length, drop, replicate, sym, refl, ap, ap₂, ◌∙◌, inl, inr, arith, append_assoc, append-nil}
use Rattle.std.proofs.lemmas.List.{drop_all, length-replicate}
use Rattle.rice_residuals.specs.Bits.{low_bits, bits_of_bytes}
use Rattle.rice_residuals.specs.Faults.{form}
use Rattle.rice_residuals.specs.Reading.{Reading, reading, IsSound}
use Rattle.rice_residuals.specs.declared.register.Register.{Register}
use Rattle.rice_residuals.proofs.ByteBits.{bits_of_bytes-nil}
use Rattle.rice_residuals.proofs.Forms.{form_short, form_long}
use Rattle.rice_residuals.proofs.Readings.{reading_left, reading_end, shorter}

left_is : (bytes : List ℕ) (r : Register) (now : Reading) → reading bytes r ≡ now → now.left ≡ low_bits r.held r.bits ++ bits_of_bytes (drop r.next bytes)
left_is bytes r now e = sym (ap (λ (x : Reading). x.left) e) ∙ reading_left bytes r

pub ones_none :
    (bytes : List ℕ) (r : Register) (now : Reading) (ones : ℕ)
    → reading bytes r ≡ now → low_bits r.held r.bits ≡ replicate ones true ++ low_bits (r.held - ones) r.bits → ones ≡ r.held → ones < 32
    → (32 ≤ r.held) ⊎ (r.next ≡ length bytes)
    → (now.left ≡ replicate (length now.left) true) × (length now.left < 32)
unfolding low_bits
ones_none bytes r now ones e run all few enough =
    let ended : r.next ≡ length bytes = elim enough [ inl h ↦ absurd (omega arith) | inr h ↦ h ] in
    let none : bits_of_bytes (drop r.next bytes) ≡ [] = ap bits_of_bytes (drop_all r.next bytes (omega arith)) ∙ bits_of_bytes-nil in
    let none_held : r.held - ones ≡ 0 = omega arith in
    let left : now.left ≡ replicate ones true =
    left_is bytes r now e
    ∙ ap₂ (λ (x : List Bool) (y : List Bool). x ++ y) run none
    ∙ append-nil (replicate ones true ++ low_bits (r.held - ones) r.bits)
    ∙ ap (λ (m : ℕ). replicate ones true ++ low_bits m r.bits) none_held
    ∙ append-nil (replicate ones true) in
    let l : length now.left ≡ ones = ap length left ∙ length-replicate ones true in
    (left ∙ ap (λ (m : ℕ). replicate m true) (sym l), omega arith)

pub ones_short :
    (bytes : List ℕ) (r : Register) (now : Reading) (ones : ℕ)
    → reading bytes r ≡ now → low_bits r.held r.bits ≡ replicate ones true ++ low_bits (r.held - ones) r.bits → ones < 32
    → low_bits (r.held - ones) r.bits ≡ false ∷ low_bits (r.held - ones - 1) r.bits
    → now.left ≡ form ones (reading bytes (shorter r (r.held - ones - 1))).left
ones_short bytes r now ones e run few behind =
    let rest = bits_of_bytes (drop r.next bytes) in
    let held = r.held - ones - 1 in
    left_is bytes r now e
    ∙ ap (λ (x : List Bool). x ++ rest) (run ∙ ap (λ (x : List Bool). replicate ones true ++ x) behind)
    ∙ append_assoc (replicate ones true) (false ∷ low_bits held r.bits) rest
    ∙ sym (form_short ones (low_bits held r.bits ++ rest) few)
    ∙ ap (form ones) (sym (reading_left bytes (shorter r held)))

pub ones_long :
    (bytes : List ℕ) (r : Register) (now : Reading) (ones : ℕ)
    → reading bytes r ≡ now → low_bits r.held r.bits ≡ replicate ones true ++ low_bits (r.held - ones) r.bits → ones ≡ 32
    → now.left ≡ form 32 (reading bytes (shorter r (r.held - 32))).left
ones_long bytes r now ones e run all =
    let rest = bits_of_bytes (drop r.next bytes) in
    let held = r.held - 32 in
    left_is bytes r now e
    ∙ ap (λ (x : List Bool). x ++ rest) (run ∙ ap (λ (m : ℕ). replicate m true ++ low_bits (r.held - m) r.bits) all)
    ∙ append_assoc (replicate 32 true) (low_bits held r.bits) rest
    ∙ sym (form_long (low_bits held r.bits ++ rest))
    ∙ ap (form 32) (sym (reading_left bytes (shorter r held)))

-- a register with fewer bits held is sound too, and ends where it did
pub shorter_end :
    (bytes : List ℕ) (r : Register) (now : Reading) (held : ℕ)
    → IsSound bytes r → reading bytes r ≡ now → held ≤ r.held
    → (reading bytes (shorter r held)).place + length (reading bytes (shorter r held)).left ≡ now.place + length now.left
shorter_end bytes r now held s e h =
    let bound = s.held in
    let begun = s.begun in
    let sound : IsSound bytes (shorter r held) = record { held = omega arith; next = s.next; bytes_limit = s.bytes_limit; begun = omega arith } in
    reading_end bytes (shorter r held) (reading bytes (shorter r held)) sound refl ∙ sym (reading_end bytes r now s e)
