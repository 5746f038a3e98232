-- Any bytes are a word of a count of residuals, or have a first fault: the parameter, code by code, and the end.
use Rattle.std.proofs.Common.{◌≡◌, ◌⊎◌, inl, inr, ℕ, zero, suc, ◌+◌, ◌-◌, ◌*◌, ◌/◌, ◌%◌, ◌^◌, ◌<◌, ◌≤◌, ℤ, pos, negsuc, Bool, true, false, List, [], ◌∷◌, ◌++◌, length, take, drop, replicate, All, sym, refl, ap, ap₂, ◌∙◌, subst, ⊎_elim, arith, append_assoc, length-append}
use Rattle.std.specs.Int.Count.{count_leading_zeros}
use Rattle.std.proofs.lemmas.Int.{ints}
use Rattle.std.proofs.lemmas.Bool.{cases_lt, cases_eq}
use Rattle.std.proofs.lemmas.List.{take-append-drop, length-take-le}
use Rattle.rice_residuals.specs.Bits.{low_bits, bits_of_bytes, number_of}
use Rattle.rice_residuals.specs.Code.{IsResidual, code, codes, folded, residual_code}
use Rattle.rice_residuals.specs.Reading.{Reading}
use Rattle.rice_residuals.specs.Faults.{form, HasCodeFault, HasCodesFault, HasEndFault, IsPadding}
use Rattle.rice_residuals.specs.declared.fault.BlockFault.{BlockFault}
use Rattle.rice_residuals.specs.declared.fault.BlockFault.TheVariants.{CutShort, LongForm, TooWide, BadPadding, Excess}
use Rattle.rice_residuals.proofs.LowBits.{length-low_bits, number_of_below, low_bits-number_of}
use Rattle.rice_residuals.proofs.ByteBits.{length-bits_of_bytes}
use Rattle.rice_residuals.proofs.Forms.{form_short, form_long}
use Rattle.rice_residuals.proofs.CodeRead.{cut_in_ones, cut_in_long, cut_in_short, long_of_small, long_code, short_code, too_wide}
use Rattle.rice_residuals.proofs.EndRead.{zeros_first, bad_padding, excess, padding_only}
use Rattle.rice_residuals.proofs.WordRead.{no_bytes, fault_in_codes, fault_at_end, word_at_end}
use Rattle.store_verdicts.specs.Laws.{IsSomeWord, HasSomeWordFault}

-- ---- bits that are taken

record Taken (n : ℕ) (bits : List Bool) : Type 0 where
  value : ℕ
  below : value < 2 ^ n
  after : List Bool
  spelled : bits ≡ low_bits n value ++ after

taken : (n : ℕ) (bits : List Bool) → (length bits < n) ⊎ Taken n bits
taken n bits =
    ⊎_elim
    (λ (l : length bits < n). inl l)
    (λ (l : n ≤ length bits).
    let size : length (take n bits) ≡ n = length-take-le n bits l in
    inr (record {
      value = number_of (take n bits);
      below = subst (λ (m : ℕ). number_of (take n bits) < 2 ^ m) size (number_of_below (take n bits));
      after = drop n bits;
      spelled =
          sym (take-append-drop n bits)
          ∙ ap (λ (x : List Bool). x ++ drop n bits) (sym (low_bits-number_of (take n bits)) ∙ ap (λ (m : ℕ). low_bits m (number_of (take n bits))) size);
    }))
    (cases_lt (length bits) n)

-- the bits begin with fewer than k ones and a zero
record Stopped (k : ℕ) (bits : List Bool) : Type 0 where
  ones : ℕ
  few : ones < k
  after : List Bool
  spelled : bits ≡ replicate ones true ++ false ∷ after

-- they are fewer than k ones; or they begin with k
Ended : ℕ → List Bool → Type 0
Ended k bits = (length bits < k) × (bits ≡ replicate (length bits) true)

Full : ℕ → List Bool → Type 0
Full k bits = (after : List Bool) × (bits ≡ replicate k true ++ after)

run : (k : ℕ) (bits : List Bool) → Ended k bits ⊎ (Stopped k bits ⊎ Full k bits)
unfolding Ended Full
run zero bits = inr (inr (bits, refl))
run (suc k) [] = inl (omega arith, refl)
run (suc k) (false ∷ bits) = inr (inl (record { ones = 0; few = omega arith; after = bits; spelled = refl }))
run (suc k) (true ∷ bits) =
    ⊎_elim
    (λ (e : (length bits < k) × (bits ≡ replicate (length bits) true)).
    let short = e.0 in
    inl (omega arith, ap (λ (x : List Bool). true ∷ x) e.1))
    (λ (u : Stopped k bits ⊎ Full k bits).
    ⊎_elim
    (λ (s : Stopped k bits).
    let few = s.few in
    inr (inl (record { ones = suc s.ones; few = omega arith; after = s.after; spelled = ap (λ (x : List Bool). true ∷ x) s.spelled })))
    (λ (f : (after : List Bool) × (bits ≡ replicate k true ++ after)).
    inr (inr (f.0, ap (λ (x : List Bool). true ∷ x) f.1)))
    u)
    (run k bits)

-- ---- one code

record CodeRead (r : ℕ) (bits : List Bool) : Type 0 where
  value : ℕ
  below : value < 262144
  after : List Bool
  spelled : bits ≡ code r value ++ after

record CodeFails (r place : ℕ) (bits : List Bool) : Type 0 where
  fault : BlockFault
  has : HasCodeFault r place bits fault

long_verdict : (r place : ℕ) (bits low : List Bool) → bits ≡ form 32 low → CodeRead r bits ⊎ CodeFails r place bits
long_verdict r place bits low e =
    ⊎_elim
    (λ (short : length low < 18). inr (record { fault = CutShort (place + length bits); has = (refl, cut_in_long r bits low e short) }))
    (λ (t : Taken 18 low).
    ⊎_elim
    (λ (small : t.value / 2 ^ r < 32).
    inr (record { fault = LongForm place; has = (refl, long_of_small r t.value bits low t.after e t.spelled t.below small) }))
    (λ (large : 32 ≤ t.value / 2 ^ r).
    inl (record { value = t.value; below = t.below; after = t.after; spelled = long_code r t.value bits low t.after e t.spelled large }))
    (cases_lt (t.value / 2 ^ r) 32))
    (taken 18 low)

short_verdict : (r place ones : ℕ) (bits low : List Bool) → ones < 32 → bits ≡ form ones low → CodeRead r bits ⊎ CodeFails r place bits
short_verdict r place ones bits low few e =
    ⊎_elim
    (λ (short : length low < r). inr (record { fault = CutShort (place + length bits); has = (refl, cut_in_short r ones bits low few e short) }))
    (λ (t : Taken r low).
    let u = ones * 2 ^ r + t.value in
    ⊎_elim
    (λ (below : u < 262144).
    inl (record { value = u; below = below; after = t.after; spelled = short_code r ones t.value u bits low t.after few t.below refl e t.spelled }))
    (λ (wide : 262144 ≤ u).
    inr (record { fault = TooWide place; has = (refl, too_wide r ones t.value u bits low t.after few t.below refl wide e t.spelled) }))
    (cases_lt u 262144))
    (taken r low)

code_verdict : (r place : ℕ) (bits : List Bool) → CodeRead r bits ⊎ CodeFails r place bits
unfolding Ended Full
code_verdict r place bits =
    ⊎_elim
    (λ (e : (length bits < 32) × (bits ≡ replicate (length bits) true)).
    inr (record { fault = CutShort (place + length bits); has = (refl, cut_in_ones r bits e.1 e.0) }))
    (λ (u : Stopped 32 bits ⊎ Full 32 bits).
    ⊎_elim
    (λ (s : Stopped 32 bits). short_verdict r place s.ones bits s.after s.few (s.spelled ∙ sym (form_short s.ones s.after s.few)))
    (λ (f : (after : List Bool) × (bits ≡ replicate 32 true ++ after)). long_verdict r place bits f.0 (f.1 ∙ sym (form_long f.0)))
    u)
    (run 32 bits)

-- ---- all codes

record Unfolded (u : ℕ) : Type 0 where
  value : ℤ
  residual : IsResidual value
  same : folded value ≡ u

unfolded : (u : ℕ) → u < 262144 → Unfolded u
unfolded u below =
    ⊎_elim
    (λ (even : u % 2 ≡ 0).
    record { value = pos (u / 2); residual = (omega (arith, ints), omega (arith, ints)); same = omega arith })
    (λ (odd : u % 2 ≡ 0 → ⊥).
    record { value = negsuc (u / 2); residual = (omega (arith, ints), omega (arith, ints)); same = omega (arith, odd) })
    (cases_eq (u % 2) 0)

record CodesRead (r count : ℕ) (bits : List Bool) : Type 0 where
  residuals : List ℤ
  all : length residuals ≡ count
  in_range : All IsResidual residuals
  after : List Bool
  spelled : bits ≡ codes r residuals ++ after

record CodesFail (r count place : ℕ) (bits : List Bool) : Type 0 where
  fault : BlockFault
  has : HasCodesFault r count place bits fault

-- one code more stands in front
joined : (r : ℕ) (x : ℤ) (xs : List ℤ) (u : ℕ) (bits left after : List Bool) → folded x ≡ u → bits ≡ code r u ++ left → left ≡ codes r xs ++ after → bits ≡ codes r (x ∷ xs) ++ after
unfolding codes
joined r x xs u bits left after same e f =
    e
    ∙ ap₂ (λ (a b : List Bool). a ++ b) (ap (code r) (sym same)) f
    ∙ sym (append_assoc (residual_code r x) (codes r xs) after)

joined_length : (r : ℕ) (x : ℤ) (xs : List ℤ) (u : ℕ) → folded x ≡ u → length (codes r (x ∷ xs)) ≡ length (code r u) + length (codes r xs)
unfolding codes
joined_length r x xs u same =
    length-append (residual_code r x) (codes r xs) ∙ ap (λ (a : List Bool). length a + length (codes r xs)) (ap (code r) same)

all_none : All IsResidual []
all_none k d h = absurd (omega arith)

all_more : (x : ℤ) (xs : List ℤ) → IsResidual x → All IsResidual xs → All IsResidual (x ∷ xs)
all_more x xs here rest zero d h = here
all_more x xs here rest (suc k) d h = rest k d (omega arith)

later_fault : (r count place : ℕ) (bits : List Bool) (x : ℤ) (c : CodeRead r bits) → IsResidual x → folded x ≡ c.value → CodesFail r count (place + length (code r c.value)) c.after → CodesFail r (suc count) place bits
later_fault r count place bits x c ranged same f =
    let h = f.has in
    let fewer = h.fewer in
    let moved : place + length (code r c.value) + length (codes r h.residuals) ≡ place + length (codes r (x ∷ h.residuals)) = omega (arith, joined_length r x h.residuals c.value same) in
    record {
      fault = f.fault;
      has = record {
        residuals = x ∷ h.residuals;
        rest = h.rest;
        fewer = omega arith;
        in_range = all_more x h.residuals ranged h.in_range;
        spelled = joined r x h.residuals c.value bits c.after h.rest same c.spelled h.spelled;
        follows = subst (λ (n : ℕ). HasCodeFault r n h.rest f.fault) moved h.follows;
      };
    }

none_before : (r : ℕ) (bits : List Bool) → bits ≡ codes r [] ++ bits
unfolding codes
none_before r bits = refl

none_length : (r place : ℕ) → place ≡ place + length (codes r [])
unfolding codes
none_length r place = omega arith

codes_verdict : (r count place : ℕ) (bits : List Bool) → CodesRead r count bits ⊎ CodesFail r count place bits
codes_verdict r zero place bits =
    inl (record { residuals = []; all = refl; in_range = all_none; after = bits; spelled = none_before r bits })
codes_verdict r (suc count) place bits =
    ⊎_elim
    (λ (c : CodeRead r bits).
    let x = unfolded c.value c.below in
    ⊎_elim
    (λ (more : CodesRead r count c.after).
    inl (record {
      residuals = x.value ∷ more.residuals;
      all = ap suc more.all;
      in_range = all_more x.value more.residuals x.residual more.in_range;
      after = more.after;
      spelled = joined r x.value more.residuals c.value bits c.after more.after x.same c.spelled more.spelled;
    }))
    (λ (f : CodesFail r count (place + length (code r c.value)) c.after). inr (later_fault r count place bits x.value c x.residual x.same f))
    (codes_verdict r count (place + length (code r c.value)) c.after))
    (λ (f : CodeFails r place bits).
    inr (record {
      fault = f.fault;
      has = record {
        residuals = [];
        rest = bits;
        fewer = omega arith;
        in_range = all_none;
        spelled = none_before r bits;
        follows = subst (λ (n : ℕ). HasCodeFault r n bits f.fault) (none_length r place) f.has;
      };
    }))
    (code_verdict r place bits)

-- ---- the end

record EndFails (place : ℕ) (rest : List Bool) : Type 0 where
  fault : BlockFault
  has : HasEndFault place rest fault

end_verdict : (place : ℕ) (rest : List Bool) → 0 < place → (place + length rest) % 8 ≡ 0 → IsPadding rest ⊎ EndFails place rest
end_verdict place rest begun whole =
    let padding = (8 - place % 8) % 8 in
    let few : padding < 8 = omega arith in
    let old : Reading = record { place = place; left = rest } in
    ⊎_elim
    (λ (short : length rest < padding). absurd (omega arith))
    (λ (t : Taken padding rest).
    let new : Reading = record { place = place + padding; left = t.after } in
    let bytes = (place + length rest - (place + padding)) / 8 in
    ⊎_elim
    (λ (none : t.value ≡ 0).
    ⊎_elim
    (λ (all : bytes ≡ 0). inl (padding_only old new padding t.value bytes whole refl none t.spelled refl refl all))
    (λ (some : bytes ≡ 0 → ⊥).
    let more : 0 < bytes = omega (arith, some) in
    inr (record { fault = Excess bytes; has = excess old new padding t.value bytes whole refl none t.spelled refl refl more }))
    (cases_eq bytes 0))
    (λ (one : t.value ≡ 0 → ⊥).
    let some : 0 < t.value = omega (arith, one) in
    let z = count_leading_zeros 32 t.value - (32 - padding) in
    let first = zeros_first t.value padding z some t.below few refl in
    inr (record { fault = BadPadding (place + z); has = bad_padding old new padding t.value z (place + z) begun refl first.0 first.1 t.spelled refl }))
    (cases_eq t.value 0))
    (taken padding rest)

-- ---- the word

begun_word : (count p : ℕ) (bytes : List ℕ) (left : List Bool) → p < 16 → bits_of_bytes bytes ≡ low_bits 4 p ++ left → IsSomeWord count bytes ⊎ HasSomeWordFault count bytes
begun_word count p bytes left below e =
    ⊎_elim
    (λ (c : CodesRead p count left).
    let place = 4 + length (codes p c.residuals) in
    let whole : (place + length c.after) % 8 ≡ 0 =
    omega (arith, ap length e, length-append (low_bits 4 p) left, length-low_bits 4 p, length-bits_of_bytes bytes, ap length c.spelled, length-append (codes p c.residuals) c.after) in
    ⊎_elim
    (λ (padding : IsPadding c.after).
    inl (record { residuals = c.residuals; all = c.all; word = word_at_end bytes p c.residuals left c.after below c.in_range e c.spelled padding }))
    (λ (f : EndFails place c.after).
    inr (record { fault = f.fault; first = fault_at_end count bytes p place c.residuals left c.after f.fault below c.in_range c.all e c.spelled refl f.has }))
    (end_verdict place c.after (omega arith) whole))
    (λ (f : CodesFail p count 4 left). inr (record { fault = f.fault; first = fault_in_codes count bytes p 4 left f.fault below refl e f.has }))
    (codes_verdict p count 4 left)

pub any_word : (count : ℕ) (bytes : List ℕ) → IsSomeWord count bytes ⊎ HasSomeWordFault count bytes
any_word count bytes =
    ⊎_elim
    (λ (few : length (bits_of_bytes bytes) < 4).
    let empty = no_bytes bytes (bits_of_bytes bytes) refl few in
    inr (record { fault = CutShort 0; first = (sym (ap (λ (x : List ℕ). 8 * length x) empty), inl empty) }))
    (λ (t : Taken 4 (bits_of_bytes bytes)). begun_word count t.value bytes t.after t.below t.spelled)
    (taken 4 (bits_of_bytes bytes))
