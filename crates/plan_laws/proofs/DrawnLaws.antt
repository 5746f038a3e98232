-- The laws of where active regions lie.
use Rattle.std.proofs.Common.{◌≡◌, ℕ, zero, suc, ◌+◌, ◌<◌, pos, List, [], ◌∷◌, length, get_or, refl, ap, sym, ◌∙◌, subst, inl, inr, arith}
use Rattle.std.proofs.lemmas.Int.{ints}
use Rattle.clip_regions.specs.declared.region.Region.{Region}
use Rattle.clip_regions.specs.Regions.{empty_region, meet, erode, double, HasEvenCorners}
use Rattle.plan_model.specs.Window.{margin, window}
use Rattle.plan_model.specs.Actives.{inner, active_of, actives_by, filled_from, actives}
use Rattle.plan_model.specs.Sound.{IsEvenInside, IsPartOf, IsShown}
use Rattle.plan_laws.specs.Drawn.{ActivesAreAsMany, AreShown, ActivesAreShown}
use Rattle.plan_laws.proofs.HullLaws.{within_inside}
use Rattle.plan_model.proofs.Quotients.{even_from}
use Rattle.clip_regions.proofs.Cells.{HasCell, Within, spelled_by, both, meet_is, in_left, in_right, larger_has_cell}
use Rattle.plan_model.proofs.ActiveLaws.{drawable_by, both_even}

-- ---- as many
actives_by_many : (e : ℕ) (filled : List Region) → length (actives_by e filled) ≡ length filled
actives_by_many e [] = refl
actives_by_many e (filled ∷ rest) = ap suc (actives_by_many e rest)

filled_from_many : (finest : ℕ) (filled : List Region) → length (filled_from finest filled) ≡ length filled
filled_from_many zero [] = refl
filled_from_many (suc finest) [] = refl
filled_from_many zero (filled ∷ rest) = refl
filled_from_many (suc finest) (filled ∷ rest) = ap suc (filled_from_many finest rest)

pub actives_are_as_many : ActivesAreAsMany
unfolding actives
actives_are_as_many k finest filled =
    actives_by_many (margin k) (filled_from finest filled) ∙ filled_from_many finest filled

-- ---- one active region
-- a meet of an even part of a window with a region that is even where it has a cell
both_part : (w a b : Region) → IsEvenInside w a → (HasCell b → HasEvenCorners b) → HasCell (both a b) → IsEvenInside w (both a b)
both_part w a b part even some =
    let l : Within a (both a b) = in_left a b in
    let p : Within w a = within_inside w a part.inside in
    record {
      inside = record { west = omega (arith, ints); columns = some.across; east = omega (arith, ints); north = omega (arith, ints); rows = some.along; south = omega (arith, ints) };
      even = both_even a b part.even (even (larger_has_cell b (both a b) (in_right a b) some));
    }

no_cell_in_empty : HasCell empty_region → ⊥
no_cell_in_empty h = omega (arith, ints)

meet_part : (w a b : Region) → IsPartOf w a → (HasCell b → HasEvenCorners b) → IsPartOf w (meet a b)
meet_part w a b (inl e) even =
    subst (IsPartOf w) (sym (meet_is a b)) (spelled_by (IsPartOf w) (both a b) (inl refl) (λ (some : HasCell (both a b)). absurd (no_cell_in_empty (subst HasCell e (larger_has_cell a (both a b) (in_left a b) some)))))
meet_part w a b (inr part) even =
    subst (IsPartOf w) (sym (meet_is a b)) (spelled_by (IsPartOf w) (both a b) (inl refl) (λ (some : HasCell (both a b)). inr (both_part w a b part even some)))

doubled_even : (r : Region) → HasCell (double r) → HasEvenCorners (double r)
unfolding double
doubled_even r =
    spelled_by (λ (q : Region). HasCell q → HasEvenCorners q) (record { x0 = _; y0 = _; x1 = _; y1 = _ }) (λ (h : HasCell empty_region). absurd (no_cell_in_empty h)) (λ _. λ _. record {
      x0 = even_from _ r.x0 refl;
      y0 = even_from _ r.y0 refl;
      x1 = even_from _ r.x1 refl;
      y1 = even_from _ r.y1 refl;
    })

active_part : (w : Region) (e : ℕ) (filled : Region) (rest : List Region) → IsPartOf w filled → IsPartOf w (active_of e filled rest)
unfolding inner
active_part w e filled [] part = drawable_by (IsPartOf w) filled (inl refl) part
active_part w e filled (coarser ∷ rest) part =
    drawable_by (IsPartOf w) (meet filled (inner e coarser)) (inl refl) (meet_part w filled (inner e coarser) part (doubled_even (erode coarser (pos e))))

active_shown : (k level e : ℕ) (filled : Region) (rest : List Region) → IsShown k level filled → IsShown k level (active_of e filled rest)
active_shown k level e filled rest shown = record {
  x = shown.x;
  y = shown.y;
  column = shown.column;
  row = shown.row;
  part = active_part (window k level shown.x shown.y) e filled rest shown.part;
}

-- ---- all of them, the first of which is of level n
abbrev AreShownFrom : ℕ → ℕ → List Region → Type 0
AreShownFrom k n regions = (i : ℕ) → i < length regions → IsShown k (n + i) (get_or regions i empty_region)

shown_later : (k n : ℕ) (r : Region) (rest : List Region) → AreShownFrom k n (r ∷ rest) → AreShownFrom k (n + 1) rest
shown_later k n r rest h i inside =
    let same : n + suc i ≡ n + 1 + i = omega arith in
    subst (λ (level : ℕ). IsShown k level (get_or rest i empty_region)) same (h (suc i) (omega arith))

shown_first : (k n : ℕ) (r : Region) (rest : List Region) → AreShownFrom k n (r ∷ rest) → IsShown k n r
shown_first k n r rest h =
    let same : n + 0 ≡ n = omega arith in
    subst (λ (level : ℕ). IsShown k level r) same (h 0 (omega arith))

shown_cons : (k n : ℕ) (r : Region) (rest : List Region) → IsShown k n r → AreShownFrom k (n + 1) rest → AreShownFrom k n (r ∷ rest)
shown_cons k n r rest first later zero inside =
    let same : n ≡ n + 0 = omega arith in
    subst (λ (level : ℕ). IsShown k level r) same first
shown_cons k n r rest first later (suc i) inside =
    let same : n + 1 + i ≡ n + suc i = omega arith in
    subst (λ (level : ℕ). IsShown k level (get_or rest i empty_region)) same (later i (omega arith))

nothing_shown : (k level : ℕ) (r : Region) → IsShown k level r → IsShown k level empty_region
nothing_shown k level r shown = record { x = shown.x; y = shown.y; column = shown.column; row = shown.row; part = inl refl }

filled_shown : (k finest n : ℕ) (filled : List Region) → AreShownFrom k n filled → AreShownFrom k n (filled_from finest filled)
filled_shown k zero n [] h = h
filled_shown k (suc finest) n [] h = h
filled_shown k zero n (r ∷ rest) h = h
filled_shown k (suc finest) n (r ∷ rest) h =
    shown_cons k n empty_region (filled_from finest rest) (nothing_shown k n r (shown_first k n r rest h)) (filled_shown k finest (n + 1) rest (shown_later k n r rest h))

by_shown : (k e n : ℕ) (filled : List Region) → AreShownFrom k n filled → AreShownFrom k n (actives_by e filled)
by_shown k e n [] h = h
by_shown k e n (r ∷ rest) h =
    shown_cons k n (active_of e r (actives_by e rest)) (actives_by e rest) (active_shown k n e r (actives_by e rest) (shown_first k n r rest h)) (by_shown k e (n + 1) rest (shown_later k n r rest h))

at_zero : (k : ℕ) (regions : List Region) → AreShown k regions → AreShownFrom k 0 regions
at_zero k regions h i inside =
    let same : i ≡ 0 + i = omega arith in
    subst (λ (level : ℕ). IsShown k level (get_or regions i empty_region)) same (h i inside)

from_zero : (k : ℕ) (regions : List Region) → AreShownFrom k 0 regions → AreShown k regions
from_zero k regions h i inside =
    let same : 0 + i ≡ i = omega arith in
    subst (λ (level : ℕ). IsShown k level (get_or regions i empty_region)) same (h i inside)

pub actives_are_shown : ActivesAreShown
unfolding actives
actives_are_shown k finest filled h =
    from_zero k (actives_by (margin k) (filled_from finest filled)) (by_shown k (margin k) 0 (filled_from finest filled) (filled_shown k finest 0 filled (at_zero k filled h)))
