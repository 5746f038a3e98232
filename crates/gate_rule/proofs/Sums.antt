-- Sums over all views, of which one changes.
use Rattle.std.proofs.Common.{◌≡◌, ◌≢◌, ℕ, zero, suc, ◌+◌, ◌<◌, ◌≤◌, List, [], ◌∷◌, ◌++◌, length, set, sym, refl, ap, arith}
use mathlib.Core.Option.{some, some-injective, some-ne-none}
use lib.ListN.{get_elem?}
use Rattle.gate_rule.specs.Rule.{total}
use Rattle.gate_rule.specs.declared.view.View.{View}

pub elem_low : {A : Type 0} (l : List A) (i : ℕ) (a : A) → get_elem? l i ≡ some a → i < length l
elem_low [] i a e = absurd (some-ne-none a (sym e))
elem_low (x ∷ xs) zero a e = omega arith
elem_low (x ∷ xs) (suc i) a e = let h = elem_low xs i a e in omega arith

module _ (f : View → ℕ) where
  pub total-append : (l m : List View) → total f (l ++ m) ≡ total f l + total f m
  total-append [] m = omega arith
  total-append (x ∷ xs) m = omega (arith, total-append xs m)

  pub total-set : (l : List View) (j : ℕ) (v w : View) → get_elem? l j ≡ some v → total f (set l j w) + f v ≡ total f l + f w
  total-set [] j v w e = absurd (some-ne-none v (sym e))
  total-set (x ∷ xs) zero v w e = omega (arith, ap f (some-injective x v e))
  total-set (x ∷ xs) (suc j) v w e = omega (arith, total-set xs j v w e)

  pub term_le : (l : List View) (j : ℕ) (v : View) → get_elem? l j ≡ some v → f v ≤ total f l
  term_le [] j v e = absurd (some-ne-none v (sym e))
  term_le (x ∷ xs) zero v e = omega (arith, ap f (some-injective x v e))
  term_le (x ∷ xs) (suc j) v e = omega (arith, term_le xs j v e)

  pub terms_le : (l : List View) (j k : ℕ) (v u : View) → k ≢ j → get_elem? l j ≡ some v → get_elem? l k ≡ some u → f v + f u ≤ total f l
  terms_le [] j k v u n e d = absurd (some-ne-none v (sym e))
  terms_le (x ∷ xs) zero zero v u n e d = absurd (n refl)
  terms_le (x ∷ xs) zero (suc k) v u n e d = omega (arith, ap f (some-injective x v e), term_le xs k u d)
  terms_le (x ∷ xs) (suc j) zero v u n e d = omega (arith, ap f (some-injective x u d), term_le xs j v e)
  terms_le (x ∷ xs) (suc j) (suc k) v u n e d = omega (arith, terms_le xs j k v u (λ h. n (ap suc h)) e d)

  pub total_few : (l : List View) → ((v : View) → f v ≤ 1) → total f l ≤ length l
  total_few [] few = omega arith
  total_few (x ∷ xs) few = omega (arith, few x, total_few xs few)

  -- where every view is nothing, so is the sum
  pub total_none : (l : List View) → ((i : ℕ) (v : View) → get_elem? l i ≡ some v → f v ≡ 0) → total f l ≡ 0
  total_none [] none = refl
  total_none (x ∷ xs) none = omega (arith, none 0 x refl, total_none xs (λ i v e. none (suc i) v e))
