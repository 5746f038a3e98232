-- Passes of which all from one on are free: what is sought among them is found among those before it.
use Rattle.std.proofs.Common.{◌≡◌, ℕ, zero, suc, ◌+◌, ◌-◌, ◌<◌, ◌≤◌, Bool, false, cond, List, [], ◌∷◌, ◌++◌, filter, flat_map, fold, take, replicate, set, get_or-set_other, ap, sym, ◌∙◌, refl, append-nil, arith}
use Rattle.std.specs.List.{range_with_len}
use Rattle.std.proofs.lemmas.List.Elements.{filter-append}
use mathlib.Core.Path.{ap₂}
use Rattle.plan_model.specs.Strips.{first_of}
use Rattle.plan_model.specs.States.{Pass}
use Rattle.plan_model.specs.declared.events.Work.TheVariants.{Free}
use Rattle.book_plan.specs.Found.{AreFreeFrom}
use Rattle.book_plan.proofs.Ranges.{ranged}

-- free passes, and a pass put in the place of one
pub free_from_start : (n : ℕ) → AreFreeFrom (replicate n Free) 0
free_from_start zero p l = refl
free_from_start (suc n) zero l = refl
free_from_start (suc n) (suc p) l = free_from_start n p (omega arith)

pub free_after : (passes : List Pass) (p u u' : ℕ) (new : Pass) → AreFreeFrom passes u → p < u' → u ≤ u' → AreFreeFrom (set passes p new) u'
free_after passes p u u' new free h k = λ q l.
    get_or-set_other passes p q new Free (λ e. omega arith) ∙ free q (omega arith)

-- ---- the first number that passes a test
filtered_to : (q : ℕ → Bool) (u m : ℕ) → ((p : ℕ) → u ≤ p → q p ≡ false) → filter q (range_with_len 0 (u + m)) ≡ filter q (range_with_len 0 u)
filtered_to q u zero none = let same : u + 0 ≡ u = omega arith in ap (λ (n : ℕ). filter q (range_with_len 0 n)) same
filtered_to q u (suc m) none =
    let next : u + suc m ≡ (u + m) + 1 = omega arith in
    let last : filter q ((u + m) ∷ []) ≡ [] = ap (λ (b : Bool). cond b ((u + m) ∷ []) []) (none (u + m) (omega arith)) in
    let whole : filter q (range_with_len 0 (u + m)) ++ [] ≡ filter q (range_with_len 0 (u + m)) = append-nil (filter q (range_with_len 0 (u + m))) in
    ap (λ (n : ℕ). filter q (range_with_len 0 n)) next ∙ ap (filter q) (ranged (u + m)) ∙ filter-append q (range_with_len 0 (u + m)) ((u + m) ∷ []) ∙ ap (λ (xs : List ℕ). filter q (range_with_len 0 (u + m)) ++ xs) last ∙ whole ∙ filtered_to q u m none

pub first_to : (q : ℕ → Bool) (u n : ℕ) → u ≤ n → ((p : ℕ) → u ≤ p → q p ≡ false) → first_of (filter q (range_with_len 0 u)) ≡ first_of (filter q (range_with_len 0 n))
first_to q u n few none =
    let parts : u + (n - u) ≡ n = omega arith in
    sym (ap first_of (filtered_to q u (n - u) none)) ∙ ap (λ (m : ℕ). first_of (filter q (range_with_len 0 m))) parts

-- ---- what passes have, one after the other
pub flat_to : {Y : Type 0} (f : Pass → List Y) (passes : List Pass) (u : ℕ) → f Free ≡ [] → AreFreeFrom passes u → flat_map f (take u passes) ≡ flat_map f passes
flat_to f [] zero none free = refl
flat_to f [] (suc u) none free = refl
flat_to {Y = Y} f (x ∷ xs) zero none free =
    sym (ap₂ (λ (ys zs : List Y). ys ++ zs) (ap f (free 0 (omega arith)) ∙ none) (sym (flat_to f xs zero none (λ p l. free (suc p) (omega arith)))))
flat_to {Y = Y} f (x ∷ xs) (suc u) none free =
    ap (λ (ys : List Y). f x ++ ys) (flat_to f xs u none (λ p l. free (suc p) (omega arith)))

pub fold_to : {Y : Type 0} (f : Y → Pass → Y) (y : Y) (passes : List Pass) (u : ℕ) → ((z : Y) → f z Free ≡ z) → AreFreeFrom passes u → fold f y (take u passes) ≡ fold f y passes
fold_to f y [] zero none free = refl
fold_to f y [] (suc u) none free = refl
fold_to {Y = Y} f y (x ∷ xs) zero none free =
    fold_to f y xs zero none (λ p l. free (suc p) (omega arith)) ∙ ap (λ (z : Y). fold f z xs) (sym (ap (f y) (free 0 (omega arith)) ∙ none y))
fold_to f y (x ∷ xs) (suc u) none free = fold_to f (f y x) xs u none (λ p l. free (suc p) (omega arith))
