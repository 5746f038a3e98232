-- The lengths of codes, the search for the best parameter, and the bits that a code's pushes put.
use Rattle.std.proofs.Common.{◌≡◌, ℕ, suc, ◌+◌, ◌-◌, ◌*◌, ◌/◌, ◌%◌, ◌^◌, ◌<◌, ◌≤◌, ℤ, Bool, true, false, List, [], ◌∷◌, ◌++◌, length, take, get_or, replicate, pos, sym, refl, ap, ap₂, ◌∙◌, subst, ⊎_elim, arith, append_assoc, length-append, pow_pos, pow-add, pow_mono, mul_comm}
use Rattle.std.proofs.Math.Nat.{mul-le-mul_left}
use Rattle.std.proofs.lemmas.Bool.{cases_lt}
use Rattle.std.proofs.lemmas.List.{length-replicate, take_more, take_all}
use Rattle.std.proofs.lemmas.Nat.{shl_whole, mul-add-lt}
use Rattle.std.proofs.lemmas.Nat.Bits.{ones_shr}
use Rattle.rice_residuals.specs.Bits.{low_bits, packed}
use Rattle.rice_residuals.specs.Code.{code, codes, folded}
use Rattle.rice_residuals.specs.Word.{word_bits, best_parameter, canonical_word}
use Rattle.rice_residuals.proofs.LowBits.{length-low_bits, low_bits-append, low_bits-ones, low_bits-mod, pow_next}
use Rattle.rice_residuals.proofs.Forms.{form_short, form_long, code_short, code_long}
use Rattle.rice_residuals.proofs.Best.{IsBest, best_parameter_is}
use Rattle.rice_residuals.proofs.CodeRead.{codes-push}
use Rattle.rice_residuals.proofs.WordRead.{word_bits_length}

-- ---- lengths

short_spelled : (r u : ℕ) → u / 2 ^ r < 32 → code r u ≡ replicate (u / 2 ^ r) true ++ false ∷ low_bits r u
short_spelled r u h = code_short r u h ∙ form_short (u / 2 ^ r) (low_bits r u) h

long_spelled : (r u : ℕ) → 32 ≤ u / 2 ^ r → code r u ≡ replicate 32 true ++ low_bits 18 u
long_spelled r u h = code_long r u h ∙ form_long (low_bits 18 u)

pub short_length : (r u : ℕ) → u / 2 ^ r < 32 → u / 2 ^ r + 1 + r ≡ length (code r u)
short_length r u h =
    omega (arith, ap length (short_spelled r u h), length-append (replicate (u / 2 ^ r) true) (false ∷ low_bits r u), length-replicate (u / 2 ^ r) true, length-low_bits r u)

pub long_length : (r u : ℕ) → 32 ≤ u / 2 ^ r → 50 ≡ length (code r u)
long_length r u h =
    omega (arith, ap length (long_spelled r u h), length-append (replicate 32 true) (low_bits 18 u), length-low_bits 18 u)

pub codes_length_more : (r : ℕ) (xs : List ℤ) (i : ℕ) (x : ℤ) (u : ℕ) → i < length xs → get_or xs i (pos 0) ≡ x → u ≡ folded x → length (codes r (take (i + 1) xs)) ≡ length (codes r (take i xs)) + length (code r u)
codes_length_more r xs i x u l e f =
    let parts : codes r (take (i + 1) xs) ≡ codes r (take i xs) ++ code r u =
    ap (codes r) (take_more xs i (pos 0) l) ∙ codes-push r (take i xs) (get_or xs i (pos 0)) ∙ ap (λ (y : List Bool). codes r (take i xs) ++ y) (ap (λ (z : ℤ). code r (folded z)) e ∙ ap (code r) (sym f)) in
    ap length parts ∙ length-append (codes r (take i xs)) (code r u)

-- ---- the best parameter

-- the first parameter below n by which the codes are shortest
pub record IsLeastBelow (xs : List ℤ) (n r least : ℕ) : Type 0 where
  pub below : r < n
  pub value : least ≡ length (codes r xs)
  pub fewest : (s : ℕ) → s < n → length (codes r xs) ≤ length (codes s xs)
  pub first : (s : ℕ) → s < r → length (codes r xs) < length (codes s xs)

pub least_of_one : (xs : List ℤ) (least : ℕ) → least ≡ length (codes 0 xs) → IsLeastBelow xs 1 0 least
least_of_one xs least e = record {
  below = omega arith;
  value = e;
  fewest = λ s l. let z : s ≡ 0 = omega arith in subst (λ (t : ℕ). length (codes 0 xs) ≤ length (codes t xs)) (sym z) (omega arith);
  first = λ s l. absurd (omega arith);
}

pub least_taken : (xs : List ℤ) (n r least found : ℕ) → IsLeastBelow xs n r least → found ≡ length (codes n xs) → found < least → IsLeastBelow xs (n + 1) n found
least_taken xs n r least found h e l =
    let v = h.value in
    record {
      below = omega arith;
      value = e;
      fewest = λ s m.
          ⊎_elim
          (λ (i : s < n). let g = h.fewest s i in omega arith)
          (λ (i : n ≤ s). let z : s ≡ n = omega arith in subst (λ (t : ℕ). length (codes n xs) ≤ length (codes t xs)) (sym z) (omega arith))
          (cases_lt s n);
      first = λ s m. let g = h.fewest s m in omega arith;
    }

pub least_kept : (xs : List ℤ) (n r least found : ℕ) → IsLeastBelow xs n r least → found ≡ length (codes n xs) → least ≤ found → IsLeastBelow xs (n + 1) r least
least_kept xs n r least found h e l =
    let v = h.value in
    let b = h.below in
    record {
      below = omega arith;
      value = v;
      fewest = λ s m.
          ⊎_elim
          (λ (i : s < n). h.fewest s i)
          (λ (i : n ≤ s). let z : s ≡ n = omega arith in subst (λ (t : ℕ). length (codes r xs) ≤ length (codes t xs)) (sym z) (omega arith))
          (cases_lt s n);
      first = h.first;
    }

pub least_is_best : (xs : List ℤ) (r least : ℕ) → IsLeastBelow xs 16 r least → r ≡ best_parameter xs
least_is_best xs r least h =
    let best : IsBest xs r = record {
      below = h.below;
      fewest = λ s l. omega (arith, word_bits_length r xs, word_bits_length s xs, h.fewest s l);
      first = λ s l. omega (arith, word_bits_length r xs, word_bits_length s xs, h.first s l);
    } in
    sym (best_parameter_is xs r best)

-- ---- bounds on the codes' lengths

code_at_least : (r u : ℕ) → r < 16 → r + 1 ≤ length (code r u)
code_at_least r u h =
    ⊎_elim
    (λ (s : u / 2 ^ r < 32). omega (arith, short_length r u s))
    (λ (l : 32 ≤ u / 2 ^ r). omega (arith, long_length r u l))
    (cases_lt (u / 2 ^ r) 32)

code_at_most : (r u : ℕ) → r < 16 → length (code r u) ≤ 50
code_at_most r u h =
    ⊎_elim
    (λ (s : u / 2 ^ r < 32). omega (arith, short_length r u s))
    (λ (l : 32 ≤ u / 2 ^ r). omega (arith, long_length r u l))
    (cases_lt (u / 2 ^ r) 32)

pub codes_at_least : (r : ℕ) (xs : List ℤ) → r < 16 → length xs * (r + 1) ≤ length (codes r xs)
unfolding codes
codes_at_least r [] h = omega arith
codes_at_least r (x ∷ xs) h =
    let more : length (codes r xs) ≡ length (codes r xs) = refl in
    let next : length xs * (r + 1) ≤ length (codes r xs) = codes_at_least r xs h in
    let first : r + 1 ≤ length (code r (folded x)) = code_at_least r (folded x) h in
    let whole : length (code r (folded x) ++ codes r xs) ≡ length (code r (folded x)) + length (codes r xs) = length-append (code r (folded x)) (codes r xs) in
    omega arith

pub codes_at_most : (r : ℕ) (xs : List ℤ) → r < 16 → length (codes r xs) ≤ 50 * length xs
unfolding codes
codes_at_most r [] h = omega arith
codes_at_most r (x ∷ xs) h =
    let next : length (codes r xs) ≤ 50 * length xs = codes_at_most r xs h in
    let first : length (code r (folded x)) ≤ 50 = code_at_most r (folded x) h in
    let whole : length (code r (folded x) ++ codes r xs) ≡ length (code r (folded x)) + length (codes r xs) = length-append (code r (folded x)) (codes r xs) in
    omega arith

-- where no code by a greater parameter can be shorter, the search ends
pub least_stays : (xs : List ℤ) (n r least : ℕ) → n ≤ 16 → IsLeastBelow xs n r least → least ≤ length xs * (n + 1) → IsLeastBelow xs 16 r least
least_stays xs n r least few h l =
    let b = h.below in
    let v = h.value in
    record {
      below = omega arith;
      value = v;
      fewest = λ s m.
          ⊎_elim
          (λ (i : s < n). h.fewest s i)
          (λ (i : n ≤ s).
          let least_of : length xs * (s + 1) ≤ length (codes s xs) = codes_at_least s xs m in
          let wider : length xs * (n + 1) ≤ length xs * (s + 1) = mul-le-mul_left (length xs) (omega arith) in
          omega arith)
          (cases_lt s n);
      first = h.first;
    }

-- ---- pushes

pub run_value : (ones : ℕ) → ones < 32 → 4294967295 / 2 ^ (31 - ones) - 1 ≡ (2 ^ ones - 1) * 2
run_value ones h =
    let width : 32 - (31 - ones) ≡ suc ones = omega arith in
    let next = pow_next ones in
    let whole : 4294967295 / 2 ^ (31 - ones) ≡ 2 ^ suc ones - 1 = ones_shr 32 (31 - ones) (omega arith) ∙ ap (λ (n : ℕ). 2 ^ n - 1) width in
    omega (arith, pow_pos ones)

pub run_below : (ones value : ℕ) → value ≡ (2 ^ ones - 1) * 2 → value < 2 ^ (ones + 1)
run_below ones value e =
    let same : ones + 1 ≡ suc ones = omega arith in
    let next = ap (λ (n : ℕ). 2 ^ n) same ∙ pow_next ones in
    omega (arith, pow_pos ones)

pub run_bits : (ones value : ℕ) → value ≡ (2 ^ ones - 1) * 2 → low_bits (ones + 1) value ≡ replicate ones true ++ false ∷ []
unfolding low_bits
run_bits ones value e =
    let shifted : value ≡ (2 ^ ones - 1) * 2 ^ 1 + 0 = omega arith in
    ap (low_bits (ones + 1)) shifted
    ∙ low_bits-append ones 1 (2 ^ ones - 1) 0 (omega arith)
    ∙ ap (λ (x : List Bool). x ++ false ∷ []) (low_bits-ones ones)

pub short_pushed : (r u : ℕ) (old mid new : List Bool) (run low : ℕ) → u / 2 ^ r < 32 → run ≡ (2 ^ (u / 2 ^ r) - 1) * 2 → low ≡ u % 2 ^ r → mid ≡ old ++ low_bits (u / 2 ^ r + 1) run → new ≡ mid ++ low_bits r low → new ≡ old ++ code r u
short_pushed r u old mid new run low few e f a b =
    let ones = u / 2 ^ r in
    b
    ∙ ap (λ (x : List Bool). x ++ low_bits r low) (a ∙ ap (λ (x : List Bool). old ++ x) (run_bits ones run e))
    ∙ append_assoc old (replicate ones true ++ false ∷ []) (low_bits r low)
    ∙ ap (λ (x : List Bool). old ++ x)
    (append_assoc (replicate ones true) (false ∷ []) (low_bits r low)
    ∙ ap (λ (x : List Bool). replicate ones true ++ false ∷ x) (ap (low_bits r) f ∙ low_bits-mod r u)
    ∙ sym (short_spelled r u few))

-- a high part and low bits, in a number of 32 bits
pub joined_exact : (ones r run : ℕ) → ones + r < 32 → run < 2 ^ (ones + 1) → (run * 2 ^ r) % 4294967296 ≡ run * 2 ^ r
joined_exact ones r run h below = shl_whole run (ones + 1) r 32 below (omega arith)

pub joined_below : (ones r run low : ℕ) → run < 2 ^ (ones + 1) → low < 2 ^ r → run * 2 ^ r + low < 2 ^ (ones + 1 + r)
joined_below ones r run low p q =
    let product : 2 ^ (ones + 1 + r) ≡ 2 ^ (ones + 1) * 2 ^ r = pow-add 2 (ones + 1) r in
    let bound = mul-add-lt run (2 ^ r) low (2 ^ (ones + 1)) p q in
    let turned : 2 ^ r * 2 ^ (ones + 1) ≡ 2 ^ (ones + 1) * 2 ^ r = mul_comm (2 ^ r) (2 ^ (ones + 1)) in
    omega arith

pub joined_fits : (ones r run low : ℕ) → ones + r < 32 → run < 2 ^ (ones + 1) → low < 2 ^ r → run * 2 ^ r + low < 4294967296
joined_fits ones r run low h p q =
    omega (arith, joined_below ones r run low p q, pow_mono {i = ones + 1 + r} {j = 32} (omega arith))

pub short_joined : (r u : ℕ) (old new : List Bool) (value low : ℕ) → u / 2 ^ r < 32 → low ≡ u % 2 ^ r → low < 2 ^ r → value ≡ (2 ^ (u / 2 ^ r) - 1) * 2 * 2 ^ r + low → new ≡ old ++ low_bits (u / 2 ^ r + 1 + r) value → new ≡ old ++ code r u
short_joined r u old new value low few f below e a =
    let ones = u / 2 ^ r in
    let run = (2 ^ ones - 1) * 2 in
    a
    ∙ ap (λ (x : List Bool). old ++ x)
    (ap (low_bits (ones + 1 + r)) e
    ∙ low_bits-append (ones + 1) r run low below
    ∙ ap₂ (λ (x : List Bool) (y : List Bool). x ++ y) (run_bits ones run refl) (ap (low_bits r) f ∙ low_bits-mod r u)
    ∙ append_assoc (replicate ones true) (false ∷ []) (low_bits r u)
    ∙ sym (short_spelled r u few))

pub long_pushed : (r u : ℕ) (old mid new : List Bool) → 32 ≤ u / 2 ^ r → mid ≡ old ++ low_bits 32 4294967295 → new ≡ mid ++ low_bits 18 u → new ≡ old ++ code r u
long_pushed r u old mid new many a b =
    b
    ∙ ap (λ (x : List Bool). x ++ low_bits 18 u) (a ∙ ap (λ (x : List Bool). old ++ x) (low_bits-ones 32))
    ∙ append_assoc old (replicate 32 true) (low_bits 18 u)
    ∙ ap (λ (x : List Bool). old ++ x) (sym (long_spelled r u many))

pub codes_pushed : (r : ℕ) (xs : List ℤ) (i : ℕ) (x : ℤ) (u : ℕ) (start old new : List Bool) → i < length xs → get_or xs i (pos 0) ≡ x → u ≡ folded x → old ≡ start ++ codes r (take i xs) → new ≡ old ++ code r u → new ≡ start ++ codes r (take (i + 1) xs)
codes_pushed r xs i x u start old new l e f a b =
    let parts : codes r (take (i + 1) xs) ≡ codes r (take i xs) ++ code r u =
    ap (codes r) (take_more xs i (pos 0) l) ∙ codes-push r (take i xs) (get_or xs i (pos 0)) ∙ ap (λ (y : List Bool). codes r (take i xs) ++ y) (ap (λ (z : ℤ). code r (folded z)) e ∙ ap (code r) (sym f)) in
    b ∙ ap (λ (x : List Bool). x ++ code r u) a ∙ append_assoc start (codes r (take i xs)) (code r u) ∙ ap (λ (y : List Bool). start ++ y) (sym parts)

pub codes_whole : (r : ℕ) (xs : List ℤ) (start new : List Bool) → new ≡ start ++ codes r (take (length xs) xs) → new ≡ start ++ codes r xs
codes_whole r xs start new e = e ∙ ap (λ (ys : List ℤ). start ++ codes r ys) (take_all (length xs) xs (omega arith))

pub word_packed : (xs : List ℤ) (r : ℕ) (first last : List Bool) (bytes : List ℕ) → r ≡ best_parameter xs → first ≡ low_bits 4 r → last ≡ first ++ codes r xs → bytes ≡ packed last → bytes ≡ canonical_word xs
unfolding canonical_word word_bits
word_packed xs r first last bytes best a b e =
    e ∙ ap packed (b ∙ ap (λ (x : List Bool). x ++ codes r xs) a) ∙ ap (λ (s : ℕ). packed (low_bits 4 s ++ codes s xs)) best
