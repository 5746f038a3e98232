-- No code is the front of another: the forms of codes, and what has none.
use Rattle.std.proofs.Common.{◌≡◌, ◌⊎◌, ℕ, zero, suc, ◌+◌, ◌*◌, ◌/◌, ◌%◌, ◌^◌, ◌<◌, ◌≤◌, Bool, true, false, List, ◌∷◌, ◌++◌, length, replicate, if◌then◌else◌, nat_lt, sym, refl, ap, ap₂, ◌∙◌, inl, inr, ⊎_elim, arith, append_assoc, pow_pos, lt-ltb, le-ltb}
use Rattle.std.proofs.lemmas.Bool.{cases_lt}
use Rattle.std.proofs.lemmas.Nat.{shr_split, mod_below}
use Rattle.std.proofs.lemmas.List.{append_cancel_left}
use Rattle.rice_residuals.specs.Bits.{low_bits}
use Rattle.rice_residuals.specs.Code.{code}
use Rattle.rice_residuals.specs.Faults.{form, low_length}
use Rattle.rice_residuals.proofs.LowBits.{length-low_bits, low_bits-mod, low_bits-injective}

-- ---- forms

pub form_short : (ones : ℕ) (low : List Bool) → ones < 32 → form ones low ≡ replicate ones true ++ false ∷ low
unfolding form
form_short ones low h = ap (λ (t : Bool). replicate ones true ++ (if t then false ∷ low else low)) (lt-ltb ones 32 h)

pub form_long : (low : List Bool) → form 32 low ≡ replicate 32 true ++ low
unfolding form
form_long low = refl

pub form-append : (ones : ℕ) (low more : List Bool) → form ones low ++ more ≡ form ones (low ++ more)
unfolding form
form-append ones low more =
    append_assoc (replicate ones true) (if nat_lt ones 32 then false ∷ low else low) more
    ∙ ap (λ (x : List Bool). replicate ones true ++ x) (moved (nat_lt ones 32))
  where
    moved : (t : Bool) → (if t then false ∷ low else low) ++ more ≡ (if t then false ∷ (low ++ more) else (low ++ more))
    moved true = refl
    moved false = refl

pub low_length_short : (r ones : ℕ) → ones < 32 → low_length r ones ≡ r
unfolding low_length
low_length_short r ones h = ap (λ (t : Bool). if t then r else 18) (lt-ltb ones 32 h)

pub low_length_long : (r : ℕ) → low_length r 32 ≡ 18
unfolding low_length
low_length_long r = refl

-- runs of ones that end in a zero
run_parts : (a b : ℕ) (x y : List Bool) → replicate a true ++ false ∷ x ≡ replicate b true ++ false ∷ y → (a ≡ b) × (x ≡ y)
run_parts zero zero x y e = (refl, cc)
run_parts zero (suc b) x y e = cc
run_parts (suc a) zero x y e = cc
run_parts (suc a) (suc b) x y e =
    let rest : replicate a true ++ false ∷ x ≡ replicate b true ++ false ∷ y = cc in
    let parts = run_parts a b x y rest in
    (ap suc parts.0, parts.1)

-- a run that ends before another has no equal
run_ends : (a b : ℕ) (x y : List Bool) → a < b → replicate a true ++ false ∷ x ≡ replicate b true ++ y → ⊥
run_ends a zero x y l e = omega arith
run_ends zero (suc b) x y l e = cc
run_ends (suc a) (suc b) x y l e =
    let rest : replicate a true ++ false ∷ x ≡ replicate b true ++ y = cc in
    run_ends a b x y (omega arith) rest

pub form_parts : (a b : ℕ) (x y : List Bool) → a ≤ 32 → b ≤ 32 → form a x ≡ form b y → (a ≡ b) × (x ≡ y)
form_parts a b x y p q e =
    ⊎_elim
    (λ (l : a < 32).
    ⊎_elim
    (λ (m : b < 32). run_parts a b x y (sym (form_short a x l) ∙ e ∙ form_short b y m))
    (λ (m : 32 ≤ b).
    let same : b ≡ 32 = omega arith in
    absurd (run_ends a 32 x y l (sym (form_short a x l) ∙ e ∙ ap (λ (n : ℕ). form n y) same ∙ form_long y)))
    (cases_lt b 32))
    (λ (l : 32 ≤ a).
    let full : a ≡ 32 = omega arith in
    ⊎_elim
    (λ (m : b < 32).
    absurd (run_ends b 32 y x m (sym (form_short b y m) ∙ sym e ∙ ap (λ (n : ℕ). form n x) full ∙ form_long x)))
    (λ (m : 32 ≤ b).
    let same : b ≡ 32 = omega arith in
    (full ∙ sym same, append_cancel_left (replicate 32 true) x y (sym (form_long x) ∙ ap (λ (n : ℕ). form n x) (sym full) ∙ e ∙ ap (λ (n : ℕ). form n y) same ∙ form_long y)))
    (cases_lt b 32))
    (cases_lt a 32)

-- ---- codes

pub code_short : (r u : ℕ) → u / 2 ^ r < 32 → code r u ≡ form (u / 2 ^ r) (low_bits r u)
unfolding code
code_short r u h =
    ap (λ (t : Bool). if t then replicate (u / 2 ^ r) true ++ false ∷ low_bits r u else (replicate 32 true ++ low_bits 18 u)) (lt-ltb (u / 2 ^ r) 32 h)
    ∙ sym (form_short (u / 2 ^ r) (low_bits r u) h)

pub code_long : (r u : ℕ) → 32 ≤ u / 2 ^ r → code r u ≡ form 32 (low_bits 18 u)
unfolding code
code_long r u h =
    ap (λ (t : Bool). if t then replicate (u / 2 ^ r) true ++ false ∷ low_bits r u else (replicate 32 true ++ low_bits 18 u)) (le-ltb (u / 2 ^ r) 32 h)
    ∙ sym (form_long (low_bits 18 u))

-- a number by its high part and its low bits
pub same_by_parts : (r u v : ℕ) → u / 2 ^ r ≡ v / 2 ^ r → low_bits r u ≡ low_bits r v → u ≡ v
same_by_parts r u v high low =
    let same : u % 2 ^ r ≡ v % 2 ^ r = low_bits-injective r (u % 2 ^ r) (v % 2 ^ r) (mod_below u (2 ^ r) (pow_pos r)) (mod_below v (2 ^ r) (pow_pos r)) (low_bits-mod r u ∙ low ∙ sym (low_bits-mod r v)) in
    sym (shr_split u r) ∙ ap₂ (λ (h : ℕ) (l : ℕ). h * 2 ^ r + l) high same ∙ shr_split v r

-- the form of a code
pub record HasForm (r u ones : ℕ) (low : List Bool) : Type 0 where
  pub few : ones ≤ 32
  pub whole : length low ≡ low_length r ones
  pub spelled : code r u ≡ form ones low
  pub kind : ((u / 2 ^ r < 32) × (ones ≡ u / 2 ^ r) × (low ≡ low_bits r u)) ⊎ ((32 ≤ u / 2 ^ r) × (ones ≡ 32) × (low ≡ low_bits 18 u))

pub form_of_code : (r u : ℕ) → (ones : ℕ) × (low : List Bool) × HasForm r u ones low
form_of_code r u =
    ⊎_elim
    (λ (h : u / 2 ^ r < 32). (
      u / 2 ^ r,
      low_bits r u,
      record {
        few = omega arith;
        whole = length-low_bits r u ∙ sym (low_length_short r (u / 2 ^ r) h);
        spelled = code_short r u h;
        kind = inl (h, refl, refl);
      },
    ))
    (λ (h : 32 ≤ u / 2 ^ r). (
      32,
      low_bits 18 u,
      record {
        few = omega arith;
        whole = length-low_bits 18 u ∙ sym (low_length_long r);
        spelled = code_long r u h;
        kind = inr (h, refl, refl);
      },
    ))
    (cases_lt (u / 2 ^ r) 32)

-- codes of the same form are codes of the same number
pub same_code : (r u v ones : ℕ) (low : List Bool) → u < 262144 → v < 262144 → HasForm r u ones low → HasForm r v ones low → u ≡ v
same_code r u v ones low p q f g =
    elim f.kind [
      | inl a ↦ elim g.kind [
        | inl b ↦ same_by_parts r u v (sym a.1 ∙ b.1) (sym a.2 ∙ b.2)
        | inr b ↦ absurd (omega arith)
      ]
      | inr a ↦ elim g.kind [
        | inl b ↦ absurd (omega arith)
        | inr b ↦ low_bits-injective 18 u v p q (sym a.2 ∙ b.2)
      ]
    ]
