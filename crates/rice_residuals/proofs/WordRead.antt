-- A word read, or its fault, from the parts that were taken; and the exact answers.
use Rattle.std.proofs.Common.{◌≡◌, ◌↔◌, ℕ, ◌+◌, ◌*◌, ◌%◌, ◌<◌, ℤ, Bool, false, List, [], ◌∷◌, ◌++◌, length, replicate, All, Result, Ok, Err, IfOk, IfErr, IsOkAnd, sym, refl, ap, ◌∙◌, subst, inr, arith, append_assoc, length-append}
use Rattle.rice_residuals.specs.Bits.{low_bits, bits_of_bytes}
use Rattle.rice_residuals.specs.Code.{IsResidual, codes}
use Rattle.rice_residuals.specs.Word.{OpensWith, IsWordOf, word_bits}
use Rattle.rice_residuals.specs.Reading.{Reading}
use Rattle.rice_residuals.specs.List.{residual_list}
use Rattle.rice_residuals.specs.Faults.{HasCodesFault, HasEndFault, HasFault, IsPadding}
use Rattle.rice_residuals.specs.declared.residuals.Residuals.{Residuals}
use Rattle.rice_residuals.specs.declared.fault.BlockFault.{BlockFault}
use Rattle.rice_residuals.specs.declared.fault.BlockFault.TheVariants.{CutShort, LongForm, TooWide, BadPadding, Excess}
use Rattle.rice_residuals.proofs.LowBits.{length-low_bits}
use Rattle.rice_residuals.proofs.ByteBits.{length-bits_of_bytes}
use Rattle.rice_residuals.proofs.FirstFault.{one_fault, word_has_no_fault, one_list}

pub word_bits_length : (r : ℕ) (xs : List ℤ) → length (word_bits r xs) ≡ 4 + length (codes r xs)
unfolding word_bits
word_bits_length r xs = omega (arith, length-append (low_bits 4 r) (codes r xs), length-low_bits 4 r)

pub opened : (p : ℕ) (xs : List ℤ) (bits left rest : List Bool) → p < 16 → All IsResidual xs → bits ≡ low_bits 4 p ++ left → left ≡ codes p xs ++ rest → OpensWith p xs bits rest
unfolding word_bits
opened p xs bits left rest below ranged e f = record {
  parameter = below;
  in_range = ranged;
  spelled = e ∙ ap (λ (x : List Bool). low_bits 4 p ++ x) f ∙ sym (append_assoc (low_bits 4 p) (codes p xs) rest);
}

-- the bytes end inside the parameter
pub no_bytes : (bytes : List ℕ) (left : List Bool) → left ≡ bits_of_bytes bytes → length left < 4 → bytes ≡ []
no_bytes [] left e few = refl
no_bytes (b ∷ bytes) left e few = absurd (omega (arith, ap length e, length-bits_of_bytes (b ∷ bytes)))

pub fault_in_codes : (count : ℕ) (bytes : List ℕ) (p place : ℕ) (left : List Bool) (f : BlockFault) → p < 16 → place ≡ 4 → bits_of_bytes bytes ≡ low_bits 4 p ++ left → HasCodesFault p count place left f → HasFault count bytes f
fault_in_codes count bytes p place left (CutShort bit) below four e h =
    let o = opened p h.residuals (bits_of_bytes bytes) left h.rest below h.in_range e h.spelled in
    let all : bit ≡ 8 * length bytes =
    omega (arith, h.follows.0, word_bits_length p h.residuals, ap length o.spelled, length-append (word_bits p h.residuals) h.rest, length-bits_of_bytes bytes) in
    (all, inr (record { r = p; residuals = h.residuals; rest = h.rest; fewer = h.fewer; opens = o; follows = h.follows.1 }))
fault_in_codes count bytes p place left (LongForm bit) below four e h = record {
  r = p;
  residuals = h.residuals;
  rest = h.rest;
  fewer = h.fewer;
  opens = opened p h.residuals (bits_of_bytes bytes) left h.rest below h.in_range e h.spelled;
  follows = (omega (arith, h.follows.0, word_bits_length p h.residuals), h.follows.1);
}
fault_in_codes count bytes p place left (TooWide bit) below four e h = record {
  r = p;
  residuals = h.residuals;
  rest = h.rest;
  fewer = h.fewer;
  opens = opened p h.residuals (bits_of_bytes bytes) left h.rest below h.in_range e h.spelled;
  follows = (omega (arith, h.follows.0, word_bits_length p h.residuals), h.follows.1);
}
fault_in_codes count bytes p place left (BadPadding bit) below four e h = absurd h.follows
fault_in_codes count bytes p place left (Excess n) below four e h = absurd h.follows

-- the place behind the codes
pub place_behind : (p : ℕ) (xs : List ℤ) (old new : Reading) → old.place ≡ 4 → old.left ≡ codes p xs ++ new.left → new.place + length new.left ≡ old.place + length old.left → new.place ≡ 4 + length (codes p xs)
place_behind p xs old new four e end = omega (arith, ap length e, length-append (codes p xs) new.left)

-- the bits of bytes end at the end of a byte
pub whole_bytes : (bytes : List ℕ) (p : ℕ) (old new : Reading) → old.place ≡ 4 → bits_of_bytes bytes ≡ low_bits 4 p ++ old.left → new.place + length new.left ≡ old.place + length old.left → (new.place + length new.left) % 8 ≡ 0
whole_bytes bytes p old new four e end =
    omega (arith, ap length e, length-append (low_bits 4 p) old.left, length-low_bits 4 p, length-bits_of_bytes bytes)

pub fault_at_end : (count : ℕ) (bytes : List ℕ) (p place : ℕ) (xs : List ℤ) (left rest : List Bool) (f : BlockFault) → p < 16 → All IsResidual xs → length xs ≡ count → bits_of_bytes bytes ≡ low_bits 4 p ++ left → left ≡ codes p xs ++ rest → place ≡ 4 + length (codes p xs) → HasEndFault place rest f → HasFault count bytes f
fault_at_end count bytes p place xs left rest (CutShort bit) below ranged l e f place_is h = absurd h
fault_at_end count bytes p place xs left rest (LongForm bit) below ranged l e f place_is h = absurd h
fault_at_end count bytes p place xs left rest (TooWide bit) below ranged l e f place_is h = absurd h
fault_at_end count bytes p place xs left rest (BadPadding bit) below ranged l e f place_is h = record {
  r = p;
  residuals = xs;
  rest = rest;
  all = l;
  opens = opened p xs (bits_of_bytes bytes) left rest below ranged e f;
  follows = subst (λ (n : ℕ). HasEndFault n rest (BadPadding bit)) (place_is ∙ sym (word_bits_length p xs)) h;
}
fault_at_end count bytes p place xs left rest (Excess n) below ranged l e f place_is h = record {
  r = p;
  residuals = xs;
  rest = rest;
  all = l;
  opens = opened p xs (bits_of_bytes bytes) left rest below ranged e f;
  follows = h;
}

pub word_at_end : (bytes : List ℕ) (p : ℕ) (xs : List ℤ) (left rest : List Bool) → p < 16 → All IsResidual xs → bits_of_bytes bytes ≡ low_bits 4 p ++ left → left ≡ codes p xs ++ rest → IsPadding rest → IsWordOf xs bytes
word_at_end bytes p xs left rest below ranged e f padding =
    (p, (padding.0, padding.1, opened p xs (bits_of_bytes bytes) left (replicate padding.0 false) below ranged e (f ∙ ap (λ (x : List Bool). codes p xs ++ x) padding.2)))

-- ---- exact answers

pub accepts_from :
    (r : Result Residuals BlockFault) (count : ℕ) (bytes : List ℕ)
    → IfOk r (λ x. length (residual_list x) ≡ count) → IfOk r (λ x. IsWordOf (residual_list x) bytes) → IfErr r (λ f. HasFault count bytes f)
    → (xs : List ℤ) → length xs ≡ count → IsWordOf xs bytes → IsOkAnd r (λ x. residual_list x ≡ xs)
accepts_from (Ok x) count bytes counted word fault xs l w = one_list bytes (residual_list x) xs (counted ∙ sym l) word w
accepts_from (Err f) count bytes counted word fault xs l w = absurd (word_has_no_fault count bytes xs f l w fault)

pub exact_fault :
    (r : Result Residuals BlockFault) (count : ℕ) (bytes : List ℕ)
    → IfOk r (λ x. length (residual_list x) ≡ count) → IfOk r (λ x. IsWordOf (residual_list x) bytes) → IfErr r (λ f. HasFault count bytes f)
    → (f : BlockFault) → (r ≡ Err f) ↔ HasFault count bytes f
exact_fault (Ok x) count bytes counted word fault f =
    (λ e. absurd (cc), λ h. absurd (word_has_no_fault count bytes (residual_list x) f counted word h))
exact_fault (Err g) count bytes counted word fault f =
    (λ e. let same : g ≡ f = cc in subst (λ (i : BlockFault). HasFault count bytes i) same fault, λ h. ap Err (one_fault count bytes g f fault h))
