-- Bytes are a word or have one first fault, and not both.
use Rattle.std.proofs.Common.{◌≡◌, ◌⊎◌, ℕ, zero, suc, ◌+◌, ◌-◌, ◌*◌, ◌/◌, ◌<◌, ◌≤◌, ℤ, Bool, true, false, List, [], ◌∷◌, ◌++◌, length, replicate, sym, refl, ap, ap₂, ◌∙◌, subst, ⊎_elim, arith, length-append, append-nil}
use Rattle.std.proofs.lemmas.Bool.{cases_order}
use Rattle.std.proofs.lemmas.List.{length-replicate}
use Rattle.rice_residuals.specs.Bits.{low_bits, bits_of_bytes}
use Rattle.rice_residuals.specs.Code.{codes}
use Rattle.rice_residuals.specs.Word.{OpensWith, IsWordOf, word_bits}
use Rattle.rice_residuals.specs.Faults.{IsCut, IsLongForm, IsTooWide, IsBadPadding, IsExcess, InCode, AtEnd, HasFault}
use Rattle.rice_residuals.specs.declared.fault.BlockFault.{BlockFault}
use Rattle.rice_residuals.specs.declared.fault.BlockFault.TheVariants.{CutShort, LongForm, TooWide, BadPadding, Excess}
use Rattle.rice_residuals.proofs.LowBits.{length-low_bits}
use Rattle.rice_residuals.proofs.ByteBits.{length-bits_of_bytes, bits_of_bytes-nil}
use Rattle.rice_residuals.proofs.Fronts.{HasNoCode, HasNoCode-cut, HasNoCode-long, HasNoCode-wide, whole_long, whole_wide, whole_parts, cut_not_whole, opens_same, opens_stop}

-- a word has at least the bits of its parameter
pub word_bits_begun : (r : ℕ) (xs : List ℤ) → 4 ≤ length (word_bits r xs)
unfolding word_bits codes
word_bits_begun r xs = omega (arith, length-append (low_bits 4 r) (codes r xs), length-low_bits 4 r)

opens_none : (r : ℕ) (xs : List ℤ) (bytes : List ℕ) (rest : List Bool) → bytes ≡ [] → OpensWith r xs (bits_of_bytes bytes) rest → ⊥
opens_none r xs bytes rest e p =
    let bits : bits_of_bytes bytes ≡ [] = ap bits_of_bytes e ∙ bits_of_bytes-nil in
    omega (arith, ap length bits, ap length p.spelled, length-append (word_bits r xs) rest, word_bits_begun r xs)

-- ---- inside the codes

module _ (count : ℕ) (bits : List Bool) (P Q : ℕ → ℕ → List Bool → Type 0) (p_stops : (r place : ℕ) (rest : List Bool) → P r place rest → HasNoCode r rest) (q_stops : (r place : ℕ) (rest : List Bool) → Q r place rest → HasNoCode r rest) where
  in_code_same : (a : InCode count bits P) → InCode count bits Q → Q a.r (length (word_bits a.r a.residuals)) a.rest
  in_code_same a b =
      ⊎_elim
      (λ (l : length a.residuals ≡ length b.residuals).
      let same = opens_same a.r b.r a.residuals b.residuals bits a.rest b.rest a.opens b.opens l in
      subst (λ (r : ℕ). Q r (length (word_bits r a.residuals)) a.rest) (sym same.0)
      (subst (λ (xs : List ℤ). Q b.r (length (word_bits b.r xs)) a.rest) (sym same.1)
      (subst (λ (x : List Bool). Q b.r (length (word_bits b.r b.residuals)) x) (sym same.2) b.follows)))
      (λ (u : (length a.residuals < length b.residuals) ⊎ (length b.residuals < length a.residuals)).
      ⊎_elim
      (λ (l : length a.residuals < length b.residuals).
      absurd (opens_stop a.r b.r a.residuals b.residuals bits a.rest b.rest a.opens (p_stops a.r (length (word_bits a.r a.residuals)) a.rest a.follows) b.opens l))
      (λ (l : length b.residuals < length a.residuals).
      absurd (opens_stop b.r a.r b.residuals a.residuals bits b.rest a.rest b.opens (q_stops b.r (length (word_bits b.r b.residuals)) b.rest b.follows) a.opens l))
      u)
      (cases_order (length a.residuals) (length b.residuals))

in_code_at_end : (count : ℕ) (bits : List Bool) (P : ℕ → ℕ → List Bool → Type 0) (Q : ℕ → List Bool → Type 0) → ((r place : ℕ) (rest : List Bool) → P r place rest → HasNoCode r rest) → InCode count bits P → AtEnd count bits Q → ⊥
in_code_at_end count bits P Q stops a b =
    let fewer = a.fewer in
    let all = b.all in
    opens_stop a.r b.r a.residuals b.residuals bits a.rest b.rest a.opens (stops a.r (length (word_bits a.r a.residuals)) a.rest a.follows) b.opens (omega arith)

at_end_same : (count : ℕ) (bits : List Bool) (P Q : ℕ → List Bool → Type 0) (a : AtEnd count bits P) → AtEnd count bits Q → Q (length (word_bits a.r a.residuals)) a.rest
at_end_same count bits P Q a b =
    let same = opens_same a.r b.r a.residuals b.residuals bits a.rest b.rest a.opens b.opens (a.all ∙ sym b.all) in
    subst (λ (r : ℕ). Q (length (word_bits r a.residuals)) a.rest) (sym same.0)
    (subst (λ (xs : List ℤ). Q (length (word_bits b.r xs)) a.rest) (sym same.1)
    (subst (λ (x : List Bool). Q (length (word_bits b.r b.residuals)) x) (sym same.2) b.follows))

-- what stands at a place inside the codes
Cut : ℕ → ℕ → List Bool → Type 0
Cut r place rest = IsCut r rest

Long : ℕ → ℕ → ℕ → List Bool → Type 0
Long bit r place rest = (bit ≡ place) × IsLongForm r rest

Wide : ℕ → ℕ → ℕ → List Bool → Type 0
Wide bit r place rest = (bit ≡ place) × IsTooWide r rest

cut_stops : (r place : ℕ) (rest : List Bool) → Cut r place rest → HasNoCode r rest
unfolding Cut
cut_stops r place rest c = HasNoCode-cut r rest c

long_stops : (bit r place : ℕ) (rest : List Bool) → Long bit r place rest → HasNoCode r rest
unfolding Long
long_stops bit r place rest c = HasNoCode-long r rest c.1

wide_stops : (bit r place : ℕ) (rest : List Bool) → Wide bit r place rest → HasNoCode r rest
unfolding Wide
wide_stops bit r place rest c = HasNoCode-wide r rest c.1

cut_long : (bit r place : ℕ) (rest : List Bool) → Cut r place rest → Long bit r place rest → ⊥
unfolding Cut Long
cut_long bit r place rest c l = cut_not_whole r 32 (low_bits 18 l.1.folded) l.1.after rest c (whole_long r rest l.1)

cut_wide : (bit r place : ℕ) (rest : List Bool) → Cut r place rest → Wide bit r place rest → ⊥
unfolding Cut Wide
cut_wide bit r place rest c w = cut_not_whole r w.1.ones (low_bits r w.1.low) w.1.after rest c (whole_wide r rest w.1)

long_wide : (bit bad r place : ℕ) (rest : List Bool) → Long bit r place rest → Wide bad r place rest → ⊥
unfolding Long Wide
long_wide bit bad r place rest l w =
    let parts = whole_parts r 32 w.1.ones (low_bits 18 l.1.folded) (low_bits r w.1.low) l.1.after w.1.after rest (whole_long r rest l.1) (whole_wide r rest w.1) in
    let few = w.1.few in
    omega arith

-- ---- behind the codes

zeros_end : (z p : ℕ) (x y : List Bool) → z < p → replicate z false ++ true ∷ x ≡ replicate p false ++ y → ⊥
zeros_end z zero x y l e = omega arith
zeros_end zero (suc p) x y l e = cc
zeros_end (suc z) (suc p) x y l e =
    let rest : replicate z false ++ true ∷ x ≡ replicate p false ++ y = cc in
    zeros_end z p x y (omega arith) rest

zeros_same : (a b : ℕ) (x y : List Bool) → replicate a false ++ true ∷ x ≡ replicate b false ++ true ∷ y → a ≡ b
zeros_same a b x y e =
    ⊎_elim
    (λ (l : a ≡ b). l)
    (λ (u : (a < b) ⊎ (b < a)).
    ⊎_elim
    (λ (l : a < b). absurd (zeros_end a b x (true ∷ y) l e))
    (λ (l : b < a). absurd (zeros_end b a y (true ∷ x) l (sym e)))
    u)
    (cases_order a b)

-- the padding of a word
pub Padding : ℕ → List Bool → Type 0
Padding place rest = (padding : ℕ) × (padding < 8) × (rest ≡ replicate padding false)

-- the rest ends where the bytes end
ends : (count : ℕ) (bytes : List ℕ) (P : ℕ → List Bool → Type 0) (a : AtEnd count (bits_of_bytes bytes) P) → length (word_bits a.r a.residuals) + length a.rest ≡ 8 * length bytes
ends count bytes P a =
    let o = a.opens in
    sym (length-append (word_bits a.r a.residuals) a.rest) ∙ sym (ap length o.spelled) ∙ length-bits_of_bytes bytes

bad_excess : (bad n place len : ℕ) (rest : List Bool) → 4 ≤ place → place + length rest ≡ 8 * len → IsBadPadding bad place rest → IsExcess n rest → ⊥
bad_excess bad n place len rest begun e b x =
    let l : length rest ≡ x.zeros + 8 * n = ap length x.spelled ∙ length-append (replicate x.zeros false) x.after ∙ ap₂ (λ (i : ℕ) (j : ℕ). i + j) (length-replicate x.zeros false) x.whole in
    zeros_end b.zeros x.zeros b.after x.after (inside bad place b.zeros x.zeros n len (length rest) begun e l x.few b.first b.begun) (sym b.spelled ∙ x.spelled)
  where
    inside : (bad place z p n len l : ℕ) → 4 ≤ place → place + l ≡ 8 * len → l ≡ p + 8 * n → p < 8 → bad ≡ place + z → bad / 8 ≡ (place - 1) / 8 → z < p
    inside bad place z p n len l begun e f few first same = omega arith

bad_padding : (bad place len : ℕ) (rest : List Bool) → 4 ≤ place → place + length rest ≡ 8 * len → IsBadPadding bad place rest → Padding place rest → ⊥
unfolding Padding
bad_padding bad place len rest begun e b p =
    let l : length rest ≡ p.0 = ap length p.2 ∙ length-replicate p.0 false in
    zeros_end b.zeros p.0 b.after [] (inside bad place b.zeros p.0 len (length rest) begun e l p.1 b.first b.begun) (sym b.spelled ∙ p.2 ∙ sym (append-nil (replicate p.0 false)))
  where
    inside : (bad place z p len l : ℕ) → 4 ≤ place → place + l ≡ 8 * len → l ≡ p → p < 8 → bad ≡ place + z → bad / 8 ≡ (place - 1) / 8 → z < p
    inside bad place z p len l begun e f few first same = omega arith

excess_length : (n : ℕ) (rest : List Bool) (x : IsExcess n rest) → length rest ≡ x.zeros + 8 * n
excess_length n rest x =
    ap length x.spelled ∙ length-append (replicate x.zeros false) x.after ∙ ap₂ (λ (i : ℕ) (j : ℕ). i + j) (length-replicate x.zeros false) x.whole

excess_padding : (n place : ℕ) (rest : List Bool) → IsExcess n rest → Padding place rest → ⊥
unfolding Padding
excess_padding n place rest x p =
    let l : length rest ≡ p.0 = ap length p.2 ∙ length-replicate p.0 false in
    let m = excess_length n rest x in
    let some = x.some in
    let few = p.1 in
    omega arith

excess_same : (n m : ℕ) (rest : List Bool) → IsExcess n rest → IsExcess m rest → n ≡ m
excess_same n m rest x y =
    let l = excess_length n rest x in
    let k = excess_length m rest y in
    let few = x.few in
    let also = y.few in
    omega arith

-- ---- the laws

module _ (count : ℕ) (bytes : List ℕ) where
  none_in_code : (P : ℕ → ℕ → List Bool → Type 0) → bytes ≡ [] → InCode count (bits_of_bytes bytes) P → ⊥
  none_in_code P e a = opens_none a.r a.residuals bytes a.rest e a.opens

  none_at_end : (P : ℕ → List Bool → Type 0) → bytes ≡ [] → AtEnd count (bits_of_bytes bytes) P → ⊥
  none_at_end P e a = opens_none a.r a.residuals bytes a.rest e a.opens

  cut_at_end : (P : ℕ → List Bool → Type 0) → (bytes ≡ []) ⊎ InCode count (bits_of_bytes bytes) Cut → AtEnd count (bits_of_bytes bytes) P → ⊥
  cut_at_end P u b = ⊎_elim (λ e. none_at_end P e b) (λ a. in_code_at_end count (bits_of_bytes bytes) Cut P cut_stops a b) u

  long_at_end : (bit : ℕ) (P : ℕ → List Bool → Type 0) → InCode count (bits_of_bytes bytes) (Long bit) → AtEnd count (bits_of_bytes bytes) P → ⊥
  long_at_end bit P a b = in_code_at_end count (bits_of_bytes bytes) (Long bit) P (long_stops bit) a b

  wide_at_end : (bit : ℕ) (P : ℕ → List Bool → Type 0) → InCode count (bits_of_bytes bytes) (Wide bit) → AtEnd count (bits_of_bytes bytes) P → ⊥
  wide_at_end bit P a b = in_code_at_end count (bits_of_bytes bytes) (Wide bit) P (wide_stops bit) a b

  cut_in_long : (bit : ℕ) → (bytes ≡ []) ⊎ InCode count (bits_of_bytes bytes) Cut → InCode count (bits_of_bytes bytes) (Long bit) → ⊥
  cut_in_long bit u b =
      ⊎_elim
      (λ e. none_in_code (Long bit) e b)
      (λ (a : InCode count (bits_of_bytes bytes) Cut).
      cut_long bit a.r (length (word_bits a.r a.residuals)) a.rest a.follows (in_code_same count (bits_of_bytes bytes) Cut (Long bit) cut_stops (long_stops bit) a b))
      u

  cut_in_wide : (bit : ℕ) → (bytes ≡ []) ⊎ InCode count (bits_of_bytes bytes) Cut → InCode count (bits_of_bytes bytes) (Wide bit) → ⊥
  cut_in_wide bit u b =
      ⊎_elim
      (λ e. none_in_code (Wide bit) e b)
      (λ (a : InCode count (bits_of_bytes bytes) Cut).
      cut_wide bit a.r (length (word_bits a.r a.residuals)) a.rest a.follows (in_code_same count (bits_of_bytes bytes) Cut (Wide bit) cut_stops (wide_stops bit) a b))
      u

  long_in_wide : (bit bad : ℕ) → InCode count (bits_of_bytes bytes) (Long bit) → InCode count (bits_of_bytes bytes) (Wide bad) → ⊥
  long_in_wide bit bad a b =
      long_wide bit bad a.r (length (word_bits a.r a.residuals)) a.rest a.follows (in_code_same count (bits_of_bytes bytes) (Long bit) (Wide bad) (long_stops bit) (wide_stops bad) a b)

  long_same : (bit bad : ℕ) → InCode count (bits_of_bytes bytes) (Long bit) → InCode count (bits_of_bytes bytes) (Long bad) → bit ≡ bad
  unfolding Long
  long_same bit bad a b = a.follows.0 ∙ sym (in_code_same count (bits_of_bytes bytes) (Long bit) (Long bad) (long_stops bit) (long_stops bad) a b).0

  wide_same : (bit bad : ℕ) → InCode count (bits_of_bytes bytes) (Wide bit) → InCode count (bits_of_bytes bytes) (Wide bad) → bit ≡ bad
  unfolding Wide
  wide_same bit bad a b = a.follows.0 ∙ sym (in_code_same count (bits_of_bytes bytes) (Wide bit) (Wide bad) (wide_stops bit) (wide_stops bad) a b).0

  bad_same : (bit bad : ℕ) → AtEnd count (bits_of_bytes bytes) (IsBadPadding bit) → AtEnd count (bits_of_bytes bytes) (IsBadPadding bad) → bit ≡ bad
  bad_same bit bad a b =
      let p = a.follows in
      let q = at_end_same count (bits_of_bytes bytes) (IsBadPadding bit) (IsBadPadding bad) a b in
      p.first ∙ ap (λ (z : ℕ). length (word_bits a.r a.residuals) + z) (zeros_same p.zeros q.zeros p.after q.after (sym p.spelled ∙ q.spelled)) ∙ sym q.first

  bad_in_excess : (bit n : ℕ) → AtEnd count (bits_of_bytes bytes) (IsBadPadding bit) → AtEnd count (bits_of_bytes bytes) (λ place rest. IsExcess n rest) → ⊥
  bad_in_excess bit n a b =
      bad_excess bit n (length (word_bits a.r a.residuals)) (length bytes) a.rest (word_bits_begun a.r a.residuals) (ends count bytes (IsBadPadding bit) a) a.follows (at_end_same count (bits_of_bytes bytes) (IsBadPadding bit) (λ place rest. IsExcess n rest) a b)

  same_excess : (n m : ℕ) → AtEnd count (bits_of_bytes bytes) (λ place rest. IsExcess n rest) → AtEnd count (bits_of_bytes bytes) (λ place rest. IsExcess m rest) → n ≡ m
  same_excess n m a b =
      excess_same n m a.rest a.follows (at_end_same count (bits_of_bytes bytes) (λ place rest. IsExcess n rest) (λ place rest. IsExcess m rest) a b)

  bad_no_padding : (bit : ℕ) → AtEnd count (bits_of_bytes bytes) (IsBadPadding bit) → AtEnd count (bits_of_bytes bytes) Padding → ⊥
  bad_no_padding bit a b =
      bad_padding bit (length (word_bits a.r a.residuals)) (length bytes) a.rest (word_bits_begun a.r a.residuals) (ends count bytes (IsBadPadding bit) a) a.follows (at_end_same count (bits_of_bytes bytes) (IsBadPadding bit) Padding a b)

  excess_no_padding : (n : ℕ) → AtEnd count (bits_of_bytes bytes) (λ place rest. IsExcess n rest) → AtEnd count (bits_of_bytes bytes) Padding → ⊥
  excess_no_padding n a b =
      excess_padding n (length (word_bits a.r a.residuals)) a.rest a.follows (at_end_same count (bits_of_bytes bytes) (λ place rest. IsExcess n rest) Padding a b)

pub one_fault : (count : ℕ) (bytes : List ℕ) (f g : BlockFault) → HasFault count bytes f → HasFault count bytes g → f ≡ g
unfolding Cut Long Wide
one_fault count bytes (CutShort a) (CutShort b) p q = ap CutShort (p.0 ∙ sym q.0)
one_fault count bytes (CutShort a) (LongForm b) p q = absurd (cut_in_long count bytes b p.1 q)
one_fault count bytes (CutShort a) (TooWide b) p q = absurd (cut_in_wide count bytes b p.1 q)
one_fault count bytes (CutShort a) (BadPadding b) p q = absurd (cut_at_end count bytes (IsBadPadding b) p.1 q)
one_fault count bytes (CutShort a) (Excess b) p q = absurd (cut_at_end count bytes (λ place rest. IsExcess b rest) p.1 q)
one_fault count bytes (LongForm a) (CutShort b) p q = absurd (cut_in_long count bytes a q.1 p)
one_fault count bytes (LongForm a) (LongForm b) p q = ap LongForm (long_same count bytes a b p q)
one_fault count bytes (LongForm a) (TooWide b) p q = absurd (long_in_wide count bytes a b p q)
one_fault count bytes (LongForm a) (BadPadding b) p q = absurd (long_at_end count bytes a (IsBadPadding b) p q)
one_fault count bytes (LongForm a) (Excess b) p q = absurd (long_at_end count bytes a (λ place rest. IsExcess b rest) p q)
one_fault count bytes (TooWide a) (CutShort b) p q = absurd (cut_in_wide count bytes a q.1 p)
one_fault count bytes (TooWide a) (LongForm b) p q = absurd (long_in_wide count bytes b a q p)
one_fault count bytes (TooWide a) (TooWide b) p q = ap TooWide (wide_same count bytes a b p q)
one_fault count bytes (TooWide a) (BadPadding b) p q = absurd (wide_at_end count bytes a (IsBadPadding b) p q)
one_fault count bytes (TooWide a) (Excess b) p q = absurd (wide_at_end count bytes a (λ place rest. IsExcess b rest) p q)
one_fault count bytes (BadPadding a) (CutShort b) p q = absurd (cut_at_end count bytes (IsBadPadding a) q.1 p)
one_fault count bytes (BadPadding a) (LongForm b) p q = absurd (long_at_end count bytes b (IsBadPadding a) q p)
one_fault count bytes (BadPadding a) (TooWide b) p q = absurd (wide_at_end count bytes b (IsBadPadding a) q p)
one_fault count bytes (BadPadding a) (BadPadding b) p q = ap BadPadding (bad_same count bytes a b p q)
one_fault count bytes (BadPadding a) (Excess b) p q = absurd (bad_in_excess count bytes a b p q)
one_fault count bytes (Excess a) (CutShort b) p q = absurd (cut_at_end count bytes (λ place rest. IsExcess a rest) q.1 p)
one_fault count bytes (Excess a) (LongForm b) p q = absurd (long_at_end count bytes b (λ place rest. IsExcess a rest) q p)
one_fault count bytes (Excess a) (TooWide b) p q = absurd (wide_at_end count bytes b (λ place rest. IsExcess a rest) q p)
one_fault count bytes (Excess a) (BadPadding b) p q = absurd (bad_in_excess count bytes b a q p)
one_fault count bytes (Excess a) (Excess b) p q = ap Excess (same_excess count bytes a b p q)

-- a word ends with padding
word_ends : (count : ℕ) (bytes : List ℕ) (xs : List ℤ) → length xs ≡ count → IsWordOf xs bytes → AtEnd count (bits_of_bytes bytes) Padding
unfolding Padding
word_ends count bytes xs l w = record {
  r = w.0;
  residuals = xs;
  rest = replicate w.1.0 false;
  all = l;
  opens = w.1.2;
  follows = (w.1.0, w.1.1, refl);
}

pub word_has_no_fault : (count : ℕ) (bytes : List ℕ) (xs : List ℤ) (f : BlockFault) → length xs ≡ count → IsWordOf xs bytes → HasFault count bytes f → ⊥
unfolding Cut Long Wide
word_has_no_fault count bytes xs (CutShort a) l w p = cut_at_end count bytes Padding p.1 (word_ends count bytes xs l w)
word_has_no_fault count bytes xs (LongForm a) l w p = long_at_end count bytes a Padding p (word_ends count bytes xs l w)
word_has_no_fault count bytes xs (TooWide a) l w p = wide_at_end count bytes a Padding p (word_ends count bytes xs l w)
word_has_no_fault count bytes xs (BadPadding a) l w p = bad_no_padding count bytes a p (word_ends count bytes xs l w)
word_has_no_fault count bytes xs (Excess a) l w p = excess_no_padding count bytes a p (word_ends count bytes xs l w)

-- the residuals of a word are one list, by whatever parameter
pub one_list : (bytes : List ℕ) (xs ys : List ℤ) → length xs ≡ length ys → IsWordOf xs bytes → IsWordOf ys bytes → xs ≡ ys
one_list bytes xs ys l v w =
    (opens_same v.0 w.0 xs ys (bits_of_bytes bytes) (replicate v.1.0 false) (replicate w.1.0 false) v.1.2 w.1.2 l).1
