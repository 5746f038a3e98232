-- The parameter of fewest bits, the least one on a tie, and the canonical word.
use Rattle.std.proofs.Common.{◌≡◌, ℕ, zero, suc, ◌+◌, ◌<◌, ◌≤◌, ℤ, Bool, true, false, List, length, replicate, nat_le, Option, Some, All, unwrap_or, find, sym, refl, ap, ◌∙◌, subst, ⊎_elim, arith, length-append, le-leb}
use Rattle.std.specs.List.{range_with_len, list_all}
use Rattle.std.proofs.lemmas.Bool.{cases_lt, cases_eq, lt-leb, cond-true, cond-false, and_from, and_left, and_right}
use Rattle.std.proofs.lemmas.List.{length-replicate}
use Rattle.rice_residuals.specs.Bits.{packed}
use Rattle.rice_residuals.specs.Code.{IsResidual}
use Rattle.rice_residuals.specs.Word.{IsBlockWord, word_bits, best_parameter, canonical_word}
use Rattle.rice_residuals.proofs.ByteBits.{bits_of_bytes-packed, padding_of, padding_below, length-bits_of_bytes}

list_all_true : (p : ℕ → Bool) (a n : ℕ) → ((s : ℕ) → a ≤ s → s < a + n → p s ≡ true) → list_all p (range_with_len a n) ≡ true
list_all_true p a zero h = refl
list_all_true p a (suc n) h =
    and_from (p a) (list_all p (range_with_len (a + 1) n)) (h a (omega arith) (omega arith)) (list_all_true p (a + 1) n (λ s l m. h s (omega arith) (omega arith)))

list_all_false : (p : ℕ → Bool) (a n s : ℕ) → a ≤ s → s < a + n → p s ≡ false → list_all p (range_with_len a n) ≡ false
list_all_false p a zero s l m e = absurd (omega arith)
list_all_false p a (suc n) s l m e =
    ⊎_elim
    (λ (h : a ≡ s). and_left (p a) (list_all p (range_with_len (a + 1) n)) (ap p h ∙ e))
    (λ (h : a ≡ s → ⊥).
    let below : a + 1 ≤ s = omega arith in
    and_right (p a) (list_all p (range_with_len (a + 1) n)) (list_all_false p (a + 1) n s below (omega arith) e))
    (cases_eq a s)

find_in_range : (p : ℕ → Bool) (a n r : ℕ) → a ≤ r → r < a + n → p r ≡ true → ((s : ℕ) → a ≤ s → s < r → p s ≡ false) → find p (range_with_len a n) ≡ Some r
find_in_range p a zero r l m e h = absurd (omega arith)
find_in_range p a (suc n) r l m e h =
    ⊎_elim
    (λ (same : a ≡ r). cond-true (p a) (Some a) (find p (range_with_len (a + 1) n)) (ap p same ∙ e) ∙ ap Some same)
    (λ (other : a ≡ r → ⊥).
    let below : a + 1 ≤ r = omega arith in
    cond-false (p a) (Some a) (find p (range_with_len (a + 1) n)) (h a (omega arith) (omega arith))
    ∙ find_in_range p (a + 1) n r below (omega arith) e (λ s i j. h s (omega arith) j))
    (cases_eq a r)

-- the first place below n where f is least
record IsLeast (f : ℕ → ℕ) (n r : ℕ) : Type 0 where
  below : r < n
  fewest : (s : ℕ) → s < n → f r ≤ f s
  first : (s : ℕ) → s < r → f r < f s

least_below : (f : ℕ → ℕ) (n : ℕ) → (r : ℕ) × IsLeast f (suc n) r
least_below f zero = (
  0,
  record {
    below = omega arith;
    fewest = λ s l. let e : s ≡ 0 = omega arith in subst (λ (t : ℕ). f 0 ≤ f t) (sym e) (omega arith);
    first = λ s l. absurd (omega arith);
  },
)
least_below f (suc n) =
    let before = least_below f n in
    let r = before.0 in
    let b = before.1.below in
    ⊎_elim
    (λ (l : f (suc n) < f r). (
      suc n,
      record {
        below = omega arith;
        fewest = λ s h.
            ⊎_elim
            (λ (m : s < suc n). let g = before.1.fewest s m in omega arith)
            (λ (m : suc n ≤ s). let e : s ≡ suc n = omega arith in subst (λ (t : ℕ). f (suc n) ≤ f t) (sym e) (omega arith))
            (cases_lt s (suc n));
        first = λ s h. let g = before.1.fewest s h in omega arith;
      },
    ))
    (λ (l : f r ≤ f (suc n)). (
      r,
      record {
        below = omega arith;
        fewest = λ s h.
            ⊎_elim
            (λ (m : s < suc n). before.1.fewest s m)
            (λ (m : suc n ≤ s). let e : s ≡ suc n = omega arith in subst (λ (t : ℕ). f r ≤ f t) (sym e) l)
            (cases_lt s (suc n));
        first = before.1.first;
      },
    ))
    (cases_lt (f (suc n)) (f r))

-- how many bits the word has by a parameter, without its padding
pub word_length : List ℤ → ℕ → ℕ
word_length xs r = length (word_bits r xs)

least_found : (f : ℕ → ℕ) (r : ℕ) → IsLeast f 16 r → find (λ t. list_all (λ s. nat_le (f t) (f s)) (range_with_len 0 16)) (range_with_len 0 16) ≡ Some r
least_found f r h = found 16 h
  where
    found : (n : ℕ) → IsLeast f n r → find (λ t. list_all (λ s. nat_le (f t) (f s)) (range_with_len 0 n)) (range_with_len 0 n) ≡ Some r
    found n h =
        let below = h.below in
        find_in_range (λ t. list_all (λ s. nat_le (f t) (f s)) (range_with_len 0 n)) 0 n r (omega arith) (omega arith)
        (list_all_true (λ s. nat_le (f r) (f s)) 0 n (λ s l m. le-leb (f r) (f s) (h.fewest s (omega arith))))
        (λ t l m. list_all_false (λ s. nat_le (f t) (f s)) 0 n r (omega arith) (omega arith) (lt-leb (f t) (f r) (h.first t m)))

-- what makes a parameter the best
pub record IsBest (xs : List ℤ) (r : ℕ) : Type 0 where
  pub below : r < 16
  pub fewest : (s : ℕ) → s < 16 → length (word_bits r xs) ≤ length (word_bits s xs)
  pub first : (s : ℕ) → s < r → length (word_bits r xs) < length (word_bits s xs)

pub best_parameter_is : (xs : List ℤ) (r : ℕ) → IsBest xs r → best_parameter xs ≡ r
unfolding best_parameter
best_parameter_is xs r h =
    ap (λ (o : Option ℕ). unwrap_or o 0) (least_found (λ s. length (word_bits s xs)) r (record { below = h.below; fewest = h.fewest; first = h.first }))

pub best_is_best : (xs : List ℤ) → IsBest xs (best_parameter xs)
best_is_best xs =
    let least = least_below (λ s. length (word_bits s xs)) 15 in
    let best : IsBest xs least.0 = record { below = least.1.below; fewest = least.1.fewest; first = least.1.first } in
    subst (IsBest xs) (sym (best_parameter_is xs least.0 best)) best

pub canonical_is_word : (xs : List ℤ) → All IsResidual xs → IsBlockWord (best_parameter xs) xs (canonical_word xs)
unfolding canonical_word
canonical_is_word xs h =
    let bits = word_bits (best_parameter xs) xs in (
      padding_of bits,
      padding_below bits,
      record {
        parameter = (best_is_best xs).below;
        in_range = h;
        spelled = bits_of_bytes-packed bits;
      },
    )

pub canonical_is_shortest : (xs : List ℤ) (r : ℕ) (bytes : List ℕ) → IsBlockWord r xs bytes → length (canonical_word xs) ≤ length bytes
unfolding canonical_word
canonical_is_shortest xs r bytes w =
    let bits = word_bits (best_parameter xs) xs in
    let o = w.2 in
    omega (
      arith,
      (best_is_best xs).fewest r o.parameter,
      ap length (bits_of_bytes-packed bits),
      length-bits_of_bytes (packed bits),
      length-append bits (replicate (padding_of bits) false),
      length-replicate (padding_of bits) false,
      padding_below bits,
      ap length o.spelled,
      length-bits_of_bytes bytes,
      length-append (word_bits r xs) (replicate w.0 false),
    )
