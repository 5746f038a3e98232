-- Laws of lists of flags.
use Rattle.std.proofs.Common.{◌≡◌, ◌≢◌, ℕ, zero, suc, ◌+◌, ◌<◌, ◌≤◌, Bool, true, false, ◌||◌, List, [], ◌∷◌, length, get_or, replicate, sym, refl, ap, ◌∙◌, arith, get_or-set_same, get_or-set_other}
use Rattle.std.proofs.lemmas.Bool.{true≢false}
use Rattle.gate_rule.specs.Flags.{flag, no_flags, only, without, either_flags, one_if, how_many}

pub flag_low : (flags : List Bool) (p : ℕ) → flag flags p ≡ true → p < length flags
flag_low [] p e = absurd (true≢false (sym e))
flag_low (b ∷ ys) zero e = omega arith
flag_low (b ∷ ys) (suc p) e = let h = flag_low ys p e in omega arith

pub one_if_true : (b : Bool) → b ≡ true → one_if b ≡ 1
one_if_true b e = ap one_if e

pub one_if_false : (b : Bool) → b ≡ false → one_if b ≡ 0
one_if_false b e = ap one_if e

pub one_if_few : (b : Bool) → one_if b ≤ 1
one_if_few true = omega arith
one_if_few false = omega arith

pub zero_if : (b : Bool) → one_if b ≡ 0 → b ≡ false
zero_if true e = absurd (omega arith)
zero_if false e = refl

pub not_flag : (b : Bool) → (b ≡ true → ⊥) → b ≡ false
not_flag true n = absurd (n refl)
not_flag false n = refl

pub none_flagged : (n p : ℕ) → get_or (replicate n false) p false ≡ false
none_flagged zero p = refl
none_flagged (suc n) zero = refl
none_flagged (suc n) (suc p) = none_flagged n p

pub no_flag : (p : ℕ) → flag no_flags p ≡ false
no_flag p = none_flagged 16 p

pub only_same : (p : ℕ) → p < 16 → flag (only p) p ≡ true
only_same p low = get_or-set_same no_flags p true false low

pub only_other : (p q : ℕ) → q ≢ p → flag (only p) q ≡ false
only_other p q ne = get_or-set_other no_flags p q true false ne ∙ no_flag q

pub without_same : (flags : List Bool) (p : ℕ) → flag (without flags p) p ≡ false
without_same [] p = refl
without_same (b ∷ ys) zero = refl
without_same (b ∷ ys) (suc p) = without_same ys p

pub without_other : (flags : List Bool) (p q : ℕ) → q ≢ p → flag (without flags p) q ≡ flag flags q
without_other flags p q ne = get_or-set_other flags p q false false ne

pub without_less : (flags : List Bool) (p q : ℕ) → flag (without flags p) q ≡ true → flag flags q ≡ true
without_less [] p q e = e
without_less (b ∷ ys) zero zero e = absurd (true≢false (sym e))
without_less (b ∷ ys) zero (suc q) e = e
without_less (b ∷ ys) (suc p) zero e = e
without_less (b ∷ ys) (suc p) (suc q) e = without_less ys p q e

pub how_many_without : (flags : List Bool) (p : ℕ) → flag flags p ≡ true → how_many (without flags p) + 1 ≡ how_many flags
how_many_without [] p e = absurd (true≢false (sym e))
how_many_without (b ∷ ys) zero e = let one : one_if b ≡ 1 = ap one_if e in omega arith
how_many_without (b ∷ ys) (suc p) e = let h = how_many_without ys p e in omega arith

or_false : (a : Bool) → a || false ≡ a
or_false true = refl
or_false false = refl

pub either_flag : (xs ys : List Bool) (p : ℕ) → flag (either_flags xs ys) p ≡ flag xs p || flag ys p
either_flag [] ys p = refl
either_flag (a ∷ xs) [] p = sym (or_false (flag (a ∷ xs) p))
either_flag (a ∷ xs) (b ∷ ys) zero = refl
either_flag (a ∷ xs) (b ∷ ys) (suc p) = either_flag xs ys p

pub either_length : (xs ys : List Bool) → length xs ≡ length ys → length (either_flags xs ys) ≡ length xs
either_length [] [] e = refl
either_length [] (b ∷ ys) e = absurd (omega arith)
either_length (a ∷ xs) [] e = absurd (omega arith)
either_length (a ∷ xs) (b ∷ ys) e = ap suc (either_length xs ys (omega arith))

one_if_or : (a b : Bool) → one_if (a || b) ≤ one_if a + one_if b
one_if_or true b = omega arith
one_if_or false b = omega arith

pub how_many_either : (xs ys : List Bool) → how_many (either_flags xs ys) ≤ how_many xs + how_many ys
how_many_either [] ys = omega arith
how_many_either (a ∷ xs) [] = omega arith
how_many_either (a ∷ xs) (b ∷ ys) = omega (arith, one_if_or a b, how_many_either xs ys)

-- of four flags of which at most one is set
pub one_of_four : (a b c d : Bool) → (one_if a + one_if b) + (one_if c + one_if d) ≤ 1 → one_if (a || c) + one_if (b || d) ≡ (one_if a + one_if b) + (one_if c + one_if d)
one_of_four true b true d few = absurd (omega arith)
one_of_four true true false d few = absurd (omega arith)
one_of_four true false false true few = absurd (omega arith)
one_of_four true false false false few = refl
one_of_four false true c true few = absurd (omega arith)
one_of_four false true c false few = omega arith
one_of_four false false c d few = omega arith

pub or_cases : (a b : Bool) → a || b ≡ true → (a ≡ true → ⊥) → b ≡ true
or_cases true b e n = absurd (n refl)
or_cases false b e n = e

pub or_left : (a b : Bool) → a ≡ true → a || b ≡ true
or_left a b e = ap (λ (x : Bool). x || b) e
