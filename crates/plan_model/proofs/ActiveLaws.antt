-- The laws of active regions.
use Rattle.std.proofs.Common.{◌≡◌, ℕ, zero, suc, true, false, ◌||◌, ℤ, pos, ◌-ℤ◌, List, [], ◌∷◌, refl, sym, ◌∙◌, subst, inl, inr, arith}
use Rattle.std.proofs.lemmas.Int.{ints}
use Rattle.std.proofs.lemmas.Bool.{cond_both, true≢false}
use Rattle.std.specs.Int.{int_min, int_max}
use lib.Signed.{lt_z}
use Rattle.clip_regions.specs.declared.region.Region.{Region}
use Rattle.clip_regions.specs.FloorDivision.{floor_rem}
use Rattle.clip_regions.specs.Regions.{is_empty, empty_region, meet, erode, halve, double, holds, HasEvenCorners}
use Rattle.plan_model.specs.Window.{margin}
use Rattle.plan_model.specs.Actives.{drawable, inner, active_of, actives_by, filled_from, actives}
use Rattle.plan_model.specs.Laws.{IsEvenOrEmpty, AllEvenOrEmpty, EvenActives, AreNested, NestedActives, AllIn, ActivesAreFilled}
use Rattle.plan_model.proofs.Quotients.{half_at_least, half_at_most}
use Rattle.clip_regions.proofs.Cells.{HasCell, has_cell, not_empty, spelled_by, empty_is_empty, holds_empty, Within, holds_within, within, both, meet_is, in_left, in_right, kept_in, meet_in_left, meet_in_right, larger_has_cell, spelled_same}
use Rattle.clip_regions.proofs.Sizes.{halved, halve_is, doubled, double_is, doubled_even}

-- what is true of the empty region and of r is true of what can be drawn of r
unfoldable pub drawable_by : (P : Region → Type 0) (r : Region) → P empty_region → P r → P (drawable r)
unfolding drawable
drawable_by P r at_empty at_region =
    cond_both (lt_z (r.x1 -ℤ r.x0) (pos 2) || lt_z (r.y1 -ℤ r.y0) (pos 2)) empty_region r P (λ e. at_empty) (λ e. at_region)

-- ---- each lies in its filled region
holds_itself : (r : Region) → holds r r ≡ true
holds_itself r = holds_within r r (record { west = omega (arith, ints); east = omega (arith, ints); north = omega (arith, ints); south = omega (arith, ints) })

active_in : (e : ℕ) (filled : Region) (rest : List Region) → holds filled (active_of e filled rest) ≡ true
active_in e filled [] =
    drawable_by (λ (q : Region). holds filled q ≡ true) filled (holds_empty filled empty_region empty_is_empty) (holds_itself filled)
active_in e filled (coarser ∷ rest) =
    drawable_by (λ (q : Region). holds filled q ≡ true) (meet filled (inner e coarser)) (holds_empty filled empty_region empty_is_empty) (meet_in_left filled (inner e coarser) (meet filled (inner e coarser)) refl)

all_in : (e : ℕ) (filled : List Region) → AllIn filled (actives_by e filled)
all_in e [] = tt
all_in e (filled ∷ rest) = (active_in e filled (actives_by e rest), all_in e rest)

-- what meets a region without a cell has none
meet_empty : (b : Region) → is_empty (meet empty_region b) ≡ true
meet_empty b =
    subst (λ (q : Region). is_empty q ≡ true) (sym (meet_is empty_region b)) (spelled_by (λ (q : Region). is_empty q ≡ true) (both empty_region b) empty_is_empty (λ (some : HasCell (both empty_region b)). absurd (true≢false (sym empty_is_empty ∙ not_empty empty_region (larger_has_cell empty_region (both empty_region b) (in_left empty_region b) some)))))

-- a level of which nothing is filled shows nothing
active_of_empty : (e : ℕ) (rest : List Region) → is_empty (active_of e empty_region rest) ≡ true
active_of_empty e [] = drawable_by (λ (q : Region). is_empty q ≡ true) empty_region empty_is_empty empty_is_empty
active_of_empty e (coarser ∷ rest) =
    drawable_by (λ (q : Region). is_empty q ≡ true) (meet empty_region (inner e coarser)) empty_is_empty (meet_empty (inner e coarser))

all_filled : (e finest : ℕ) (filled : List Region) → AllIn filled (actives_by e (filled_from finest filled))
all_filled e finest [] = tt
all_filled e zero (filled ∷ rest) = all_in e (filled ∷ rest)
all_filled e (suc finest) (filled ∷ rest) =
    (holds_empty filled (active_of e empty_region (actives_by e (filled_from finest rest))) (active_of_empty e (actives_by e (filled_from finest rest))), all_filled e finest rest)

pub actives_are_filled : ActivesAreFilled
unfolding actives
actives_are_filled k finest filled = all_filled (margin k) finest filled

-- ---- nested by the margin
halves_within : (a b : Region) → Within (doubled a) b → Within a (halved b)
unfolding doubled halved
halves_within a b w = record {
  west = half_at_least b.x0 a.x0 w.west;
  east = half_at_most b.x1 a.x1 w.east;
  north = half_at_least b.y0 a.y0 w.north;
  south = half_at_most b.y1 a.y1 w.south;
}

-- half of what lies in the double of a region lies in the region
half_in_double : (a b : Region) → holds (double a) b ≡ true → is_empty b ≡ false → holds a (halve b) ≡ true
half_in_double a b h some =
    let cell : HasCell b = has_cell b some in
    let w : Within (double a) b = within (double a) b h some in
    let larger : HasCell (double a) = larger_has_cell (double a) b w cell in
    let plain : double a ≡ doubled a = double_is a ∙ spelled_same (doubled a) (subst HasCell (double_is a) larger) in
    let inside : Within a (halved b) = halves_within a b (subst (λ (q : Region). Within q b) plain w) in
    subst (λ (q : Region). holds a q ≡ true) (sym (halve_is b)) (kept_in a (halved b) inside)

nested_one : (e : ℕ) (filled coarser : Region) (rest : List Region) → is_empty (active_of e filled (coarser ∷ rest)) ≡ false → holds (erode coarser (pos e)) (halve (active_of e filled (coarser ∷ rest))) ≡ true
unfolding inner
nested_one e filled coarser rest =
    drawable_by (λ (q : Region). is_empty q ≡ false → holds (erode coarser (pos e)) (halve q) ≡ true) (meet filled (inner e coarser)) (λ (some : is_empty empty_region ≡ false). absurd (true≢false (sym empty_is_empty ∙ some))) (λ (some : is_empty (meet filled (inner e coarser)) ≡ false). half_in_double (erode coarser (pos e)) (meet filled (inner e coarser)) (meet_in_right filled (inner e coarser) (meet filled (inner e coarser)) refl) some)

nested_all : (e : ℕ) (filled : List Region) → AreNested e (actives_by e filled)
nested_all e [] = tt
nested_all e (filled ∷ []) = tt
nested_all e (filled ∷ next ∷ rest) =
    (nested_one e filled (active_of e next (actives_by e rest)) (actives_by e rest), nested_all e (next ∷ rest))

pub nested_actives : NestedActives
unfolding actives
nested_actives k finest filled = nested_all (margin k) (filled_from finest filled)

-- ---- even corners
double_even : (r : Region) → IsEvenOrEmpty (double r)
double_even r =
    subst IsEvenOrEmpty (sym (double_is r)) (spelled_by IsEvenOrEmpty (doubled r) (inl empty_is_empty) (λ (some : HasCell (doubled r)). inr (doubled_even r)))

pub even_if_cell : (r : Region) → IsEvenOrEmpty r → HasCell r → HasEvenCorners r
even_if_cell r (inl e) some = absurd (true≢false (sym e ∙ not_empty r some))
even_if_cell r (inr even) some = even

max_even : (a b : ℤ) → floor_rem a 2 ≡ 0 → floor_rem b 2 ≡ 0 → floor_rem (int_max a b) 2 ≡ 0
max_even a b p q = cond_both (lt_z b a) a b (λ (z : ℤ). floor_rem z 2 ≡ 0) (λ e. p) (λ e. q)

min_even : (a b : ℤ) → floor_rem a 2 ≡ 0 → floor_rem b 2 ≡ 0 → floor_rem (int_min a b) 2 ≡ 0
min_even a b p q = cond_both (lt_z b a) b a (λ (z : ℤ). floor_rem z 2 ≡ 0) (λ e. q) (λ e. p)

pub both_even : (a b : Region) → HasEvenCorners a → HasEvenCorners b → HasEvenCorners (both a b)
unfolding both
both_even a b p q = record {
  x0 = max_even a.x0 b.x0 p.x0 q.x0;
  y0 = max_even a.y0 b.y0 p.y0 q.y0;
  x1 = min_even a.x1 b.x1 p.x1 q.x1;
  y1 = min_even a.y1 b.y1 p.y1 q.y1;
}

meet_even : (a b : Region) → IsEvenOrEmpty a → IsEvenOrEmpty b → IsEvenOrEmpty (meet a b)
meet_even a b p q =
    subst IsEvenOrEmpty (sym (meet_is a b)) (spelled_by IsEvenOrEmpty (both a b) (inl empty_is_empty) (λ (some : HasCell (both a b)). inr (both_even a b (even_if_cell a p (larger_has_cell a (both a b) (in_left a b) some)) (even_if_cell b q (larger_has_cell b (both a b) (in_right a b) some)))))

active_even : (e : ℕ) (filled : Region) (rest : List Region) → IsEvenOrEmpty filled → IsEvenOrEmpty (active_of e filled rest)
unfolding inner
active_even e filled [] h = drawable_by IsEvenOrEmpty filled (inl empty_is_empty) h
active_even e filled (coarser ∷ rest) h =
    drawable_by IsEvenOrEmpty (meet filled (inner e coarser)) (inl empty_is_empty) (meet_even filled (inner e coarser) h (double_even (erode coarser (pos e))))

all_even : (e : ℕ) (filled : List Region) → AllEvenOrEmpty filled → AllEvenOrEmpty (actives_by e filled)
all_even e [] h = tt
all_even e (filled ∷ rest) h = (active_even e filled (actives_by e rest) h.0, all_even e rest h.1)

from_even : (finest : ℕ) (filled : List Region) → AllEvenOrEmpty filled → AllEvenOrEmpty (filled_from finest filled)
from_even finest [] h = tt
from_even zero (filled ∷ rest) h = h
from_even (suc finest) (filled ∷ rest) h = (inl empty_is_empty, from_even finest rest h.1)

pub even_actives : EvenActives
unfolding actives
even_actives k finest filled h = all_even (margin k) (filled_from finest filled) (from_even finest filled h)
