-- What becomes of the filled regions of windows: strips, growth and moves.
use Rattle.std.proofs.Common.{◌≡◌, Bool, true, false, ◌⊎◌, ℤ, pos, ◌+ℤ◌, ◌-ℤ◌, ◌≤ℤ◌, List, [], ◌∷◌, filter, refl, ap, sym, ◌∙◌, subst, inl, inr, arith}
use Rattle.std.specs.Option.{IfSome}
use Rattle.std.specs.Int.{int_min, int_max}
use Rattle.std.proofs.lemmas.Int.{ints, clamps}
use Rattle.std.proofs.lemmas.Bool.{and_parts, or_from, or_parts, not-true, cond_both}
use lib.Signed.{lt_z}
use Rattle.clip_regions.specs.declared.region.Region.{Region}
use Rattle.clip_regions.specs.FloorDivision.{floor_rem}
use Rattle.clip_regions.specs.Regions.{is_empty, empty_region, spelled, meet, holds, HasEvenCorners}
use Rattle.plan_model.specs.Strips.{first_of, has_cell, left_of, right_of, above, below, strips, current_strip, hull}
use Rattle.plan_model.specs.States.{same_region}
use Rattle.plan_model.specs.Sound.{IsInside, IsFilledPart, IsEvenInside, IsPartOf}
use Rattle.plan_sound.specs.Laws.{StripsAreInside}
use Rattle.clip_regions.proofs.Cells.{empty_is_empty, both, same_corners, Within, within}
use Rattle.plan_model.proofs.ActiveLaws.{both_even}

-- ---- regions that have a cell
-- the corners are in order
pub record IsOrdered (r : Region) : Type 0 where
  pub x : r.x0 ≤ℤ r.x1
  pub y : r.y0 ≤ℤ r.y1

pub not_less : (a b : ℤ) → b ≤ℤ a → lt_z a b ≡ false
not_less a b h = grind (arith, ints)

at_most : (a b : ℤ) → lt_z a b ≡ false → b ≤ℤ a
at_most a b h = omega (arith, ints)

pub ordered : (r : Region) → is_empty r ≡ false → IsOrdered r
unfolding is_empty
ordered r e =
    let parts : (lt_z r.x1 r.x0 ≡ false) × (lt_z r.y1 r.y0 ≡ false) = or_parts (lt_z r.x1 r.x0) (lt_z r.y1 r.y0) e in
    record { x = at_most r.x1 r.x0 parts.0; y = at_most r.y1 r.y0 parts.1 }

pub inside_some : (window r : Region) → IsInside window r → is_empty r ≡ false
unfolding is_empty
inside_some window r h =
    or_from (lt_z r.x1 r.x0) (lt_z r.y1 r.y0) (not_less r.x1 r.x0 h.columns) (not_less r.y1 r.y0 h.rows)

with_cell : (r : Region) → has_cell r ≡ true → IsOrdered r
unfolding has_cell
with_cell r e = ordered r (not-true (is_empty r) e)

-- ---- the first strip
pub left_inside : (filled window : Region) → IsInside window filled → IsOrdered (left_of filled window) → IsInside window (left_of filled window)
unfolding left_of
left_inside filled window h some = record {
  west = omega (arith, ints);
  columns = some.x;
  east = omega (arith, ints);
  north = h.north;
  rows = some.y;
  south = h.south;
}

pub right_inside : (filled window : Region) → IsInside window filled → IsOrdered (right_of filled window) → IsInside window (right_of filled window)
unfolding right_of
right_inside filled window h some = record {
  west = omega (arith, ints);
  columns = some.x;
  east = omega (arith, ints);
  north = h.north;
  rows = some.y;
  south = h.south;
}

pub above_inside : (filled window : Region) → IsInside window filled → IsOrdered (above filled window) → IsInside window (above filled window)
unfolding above
above_inside filled window h some = record {
  west = omega (arith, ints);
  columns = some.x;
  east = omega (arith, ints);
  north = omega (arith, ints);
  rows = some.y;
  south = omega (arith, ints);
}

pub below_inside : (filled window : Region) → IsInside window filled → IsOrdered (below filled window) → IsInside window (below filled window)
unfolding below
below_inside filled window h some = record {
  west = omega (arith, ints);
  columns = some.x;
  east = omega (arith, ints);
  north = omega (arith, ints);
  rows = some.y;
  south = omega (arith, ints);
}

-- the first of those that pass a test
first_passing : {X : Type 0} (p : X → Bool) (P : X → Type 0) (x : X) (xs : List X) → (p x ≡ true → P x) → IfSome (first_of (filter p xs)) P → IfSome (first_of (filter p (x ∷ xs))) P
first_passing p P x xs here rest =
    cond_both (p x) (x ∷ filter p xs) (filter p xs) (λ ys. IfSome (first_of ys) P) (λ e. here e) (λ e. rest)

pub around_inside : (filled window : Region) → IsInside window filled → IfSome (first_of (filter has_cell (left_of filled window ∷ right_of filled window ∷ above filled window ∷ below filled window ∷ []))) (IsInside window)
around_inside filled window h =
    first_passing has_cell (IsInside window) (left_of filled window) (right_of filled window ∷ above filled window ∷ below filled window ∷ []) (λ e. left_inside filled window h (with_cell (left_of filled window) e)) (first_passing has_cell (IsInside window) (right_of filled window) (above filled window ∷ below filled window ∷ []) (λ e. right_inside filled window h (with_cell (right_of filled window) e)) (first_passing has_cell (IsInside window) (above filled window) (below filled window ∷ []) (λ e. above_inside filled window h (with_cell (above filled window) e)) (first_passing has_cell (IsInside window) (below filled window) [] (λ e. below_inside filled window h (with_cell (below filled window) e)) tt)))

strips_none : (filled window : Region) → is_empty filled ≡ true → strips filled window ≡ window ∷ []
unfolding strips
strips_none filled window h = rw h

strips_around : (filled window : Region) → is_empty filled ≡ false → strips filled window ≡ filter has_cell (left_of filled window ∷ right_of filled window ∷ above filled window ∷ below filled window ∷ [])
unfolding strips
strips_around filled window h = rw h

-- the first strip lies in the window
pub strip_inside : StripsAreInside
unfolding current_strip
strip_inside filled window (inl e) whole =
    subst (λ rs. IfSome (first_of rs) (IsInside window)) (sym (strips_none filled window (ap is_empty e ∙ empty_is_empty))) whole
strip_inside filled window (inr h) whole =
    subst (λ rs. IfSome (first_of rs) (IsInside window)) (sym (strips_around filled window (inside_some window filled h))) (around_inside filled window h)

-- ---- growth
unfoldable pub span : Region → Region → Region
span a b = record { x0 = int_min a.x0 b.x0; y0 = int_min a.y0 b.y0; x1 = int_max a.x1 b.x1; y1 = int_max a.y1 b.y1 }

hull_right : (a b : Region) → is_empty a ≡ true → hull a b ≡ b
unfolding hull
hull_right a b h = rw h

hull_both : (a b : Region) → is_empty a ≡ false → is_empty b ≡ false → hull a b ≡ span a b
unfolding hull span
hull_both a b h g = rw (h, g)

pub span_inside : (window a b : Region) → IsInside window a → IsInside window b → IsInside window (span a b)
unfolding span
span_inside window a b h g = record {
  west = omega (arith, ints, clamps);
  columns = omega (arith, ints, clamps);
  east = omega (arith, ints, clamps);
  north = omega (arith, ints, clamps);
  rows = omega (arith, ints, clamps);
  south = omega (arith, ints, clamps);
}

-- ---- even corners
even_as : (a b : ℤ) → a ≡ b → floor_rem b 2 ≡ 0 → floor_rem a 2 ≡ 0
even_as a b e h = subst (λ (z : ℤ). floor_rem z 2 ≡ 0) (sym e) h

-- the corners of r are among those of two regions whose corners are even
abbrev IsEither : ℤ → ℤ → ℤ → Type 0
IsEither c a b = (c ≡ a) ⊎ (c ≡ b)

even_either : (c a b : ℤ) → floor_rem a 2 ≡ 0 → floor_rem b 2 ≡ 0 → IsEither c a b → floor_rem c 2 ≡ 0
even_either c a b p q (inl e) = even_as c a e p
even_either c a b p q (inr e) = even_as c b e q

greater_either : (a b : ℤ) → IsEither (int_max a b) a b
greater_either a b = cond_both (lt_z b a) a b (λ (z : ℤ). IsEither z a b) (λ e. inl refl) (λ e. inr refl)

lesser_either : (a b : ℤ) → IsEither (int_min a b) a b
lesser_either a b = cond_both (lt_z b a) b a (λ (z : ℤ). IsEither z a b) (λ e. inr refl) (λ e. inl refl)

-- what a filled region with even corners makes with a strip of its window whose corners are even
abbrev Grows : Region → Region → Region → Type 0
Grows filled window strip = IsEvenInside window (span filled strip)

left_grows : (filled window : Region) → HasEvenCorners window → IsEvenInside window filled → IsOrdered (left_of filled window) → Grows filled window (left_of filled window)
unfolding span left_of
left_grows filled window whole h some = record {
  inside = span_inside window filled (left_of filled window) h.inside (left_inside filled window h.inside some);
  even = record {
    x0 = even_as (int_min filled.x0 window.x0) window.x0 (omega (arith, ints, clamps, h.inside.west)) whole.x0;
    y0 = even_as (int_min filled.y0 filled.y0) filled.y0 (omega (arith, ints, clamps)) h.even.y0;
    x1 = even_as (int_max filled.x1 (filled.x0 -ℤ pos 1)) filled.x1 (omega (arith, ints, clamps, h.inside.columns)) h.even.x1;
    y1 = even_as (int_max filled.y1 filled.y1) filled.y1 (omega (arith, ints, clamps)) h.even.y1;
  };
}

right_grows : (filled window : Region) → HasEvenCorners window → IsEvenInside window filled → IsOrdered (right_of filled window) → Grows filled window (right_of filled window)
unfolding span right_of
right_grows filled window whole h some = record {
  inside = span_inside window filled (right_of filled window) h.inside (right_inside filled window h.inside some);
  even = record {
    x0 = even_as (int_min filled.x0 (filled.x1 +ℤ pos 1)) filled.x0 (omega (arith, ints, clamps, h.inside.columns)) h.even.x0;
    y0 = even_as (int_min filled.y0 filled.y0) filled.y0 (omega (arith, ints, clamps)) h.even.y0;
    x1 = even_as (int_max filled.x1 window.x1) window.x1 (omega (arith, ints, clamps, h.inside.east)) whole.x1;
    y1 = even_as (int_max filled.y1 filled.y1) filled.y1 (omega (arith, ints, clamps)) h.even.y1;
  };
}

above_grows : (filled window : Region) → HasEvenCorners window → IsEvenInside window filled → IsOrdered (above filled window) → Grows filled window (above filled window)
unfolding span above
above_grows filled window whole h some = record {
  inside = span_inside window filled (above filled window) h.inside (above_inside filled window h.inside some);
  even = record {
    x0 = even_either (int_min filled.x0 window.x0) filled.x0 window.x0 h.even.x0 whole.x0 (lesser_either filled.x0 window.x0);
    y0 = even_as (int_min filled.y0 window.y0) window.y0 (omega (arith, ints, clamps, h.inside.north)) whole.y0;
    x1 = even_either (int_max filled.x1 window.x1) filled.x1 window.x1 h.even.x1 whole.x1 (greater_either filled.x1 window.x1);
    y1 = even_as (int_max filled.y1 (filled.y0 -ℤ pos 1)) filled.y1 (omega (arith, ints, clamps, h.inside.rows)) h.even.y1;
  };
}

below_grows : (filled window : Region) → HasEvenCorners window → IsEvenInside window filled → IsOrdered (below filled window) → Grows filled window (below filled window)
unfolding span below
below_grows filled window whole h some = record {
  inside = span_inside window filled (below filled window) h.inside (below_inside filled window h.inside some);
  even = record {
    x0 = even_either (int_min filled.x0 window.x0) filled.x0 window.x0 h.even.x0 whole.x0 (lesser_either filled.x0 window.x0);
    y0 = even_as (int_min filled.y0 (filled.y1 +ℤ pos 1)) filled.y0 (omega (arith, ints, clamps, h.inside.rows)) h.even.y0;
    x1 = even_either (int_max filled.x1 window.x1) filled.x1 window.x1 h.even.x1 whole.x1 (greater_either filled.x1 window.x1);
    y1 = even_as (int_max filled.y1 window.y1) window.y1 (omega (arith, ints, clamps, h.inside.south)) whole.y1;
  };
}

-- the filled region that has taken a strip in is an even part of the window
abbrev pub IsGrown : Region → Region → Region → Type 0
IsGrown filled window strip = IsEvenInside window (hull filled strip)

grown_by : (filled window strip : Region) → IsInside window filled → IsInside window strip → Grows filled window strip → IsGrown filled window strip
grown_by filled window strip h g grows =
    subst (IsEvenInside window) (sym (hull_both filled strip (inside_some window filled h) (inside_some window strip g))) grows

around_grown : (filled window : Region) → HasEvenCorners window → IsEvenInside window filled → IfSome (first_of (filter has_cell (left_of filled window ∷ right_of filled window ∷ above filled window ∷ below filled window ∷ []))) (IsGrown filled window)
around_grown filled window whole h =
    first_passing has_cell (IsGrown filled window) (left_of filled window) (right_of filled window ∷ above filled window ∷ below filled window ∷ []) (λ e. let some : IsOrdered (left_of filled window) = with_cell (left_of filled window) e in grown_by filled window (left_of filled window) h.inside (left_inside filled window h.inside some) (left_grows filled window whole h some)) (first_passing has_cell (IsGrown filled window) (right_of filled window) (above filled window ∷ below filled window ∷ []) (λ e. let some : IsOrdered (right_of filled window) = with_cell (right_of filled window) e in grown_by filled window (right_of filled window) h.inside (right_inside filled window h.inside some) (right_grows filled window whole h some)) (first_passing has_cell (IsGrown filled window) (above filled window) (below filled window ∷ []) (λ e. let some : IsOrdered (above filled window) = with_cell (above filled window) e in grown_by filled window (above filled window) h.inside (above_inside filled window h.inside some) (above_grows filled window whole h some)) (first_passing has_cell (IsGrown filled window) (below filled window) [] (λ e. let some : IsOrdered (below filled window) = with_cell (below filled window) e in grown_by filled window (below filled window) h.inside (below_inside filled window h.inside some) (below_grows filled window whole h some)) tt)))

-- a filled region and the first strip of its window make an even part of the window
pub strip_grown : (filled window : Region) → IsPartOf window filled → IsInside window window → HasEvenCorners window → IfSome (current_strip filled window) (IsGrown filled window)
unfolding current_strip
strip_grown filled window (inl e) some whole =
    let none : is_empty filled ≡ true = ap is_empty e ∙ empty_is_empty in
    subst (λ rs. IfSome (first_of rs) (IsGrown filled window)) (sym (strips_none filled window none)) (subst (IsEvenInside window) (sym (hull_right filled window none)) (record { inside = some; even = whole }))
strip_grown filled window (inr h) some whole =
    subst (λ rs. IfSome (first_of rs) (IsGrown filled window)) (sym (strips_around filled window (inside_some window filled h.inside))) (around_grown filled window whole h)

-- ---- moves
-- what is true of the empty region and of r, where r has a cell, is true of r as it is spelled
pub spelled_by : (P : Region → Type 0) (r : Region) → P empty_region → (IsOrdered r → P r) → P (spelled r)
unfolding spelled
spelled_by P r at_empty at_other =
    cond_both (is_empty r) empty_region r P (λ e. at_empty) (λ e. at_other (ordered r e))

pub meet_by : (P : Region → Type 0) (a b : Region) → P empty_region → (IsOrdered (both a b) → P (both a b)) → P (meet a b)
unfolding meet both
meet_by P a b at_empty at_other = spelled_by P (both a b) at_empty at_other

both_inside : (a window : Region) → IsOrdered (both a window) → IsInside window (both a window)
unfolding both
both_inside a window some =
    let across = some.x in
    let along = some.y in
    record {
      west = omega (arith, ints, clamps);
      columns = across;
      east = omega (arith, ints, clamps);
      north = omega (arith, ints, clamps);
      rows = along;
      south = omega (arith, ints, clamps);
    }

both_none : (b : Region) → IsOrdered (both empty_region b) → ⊥
unfolding both
both_none b some =
    let across = some.x in
    omega (arith, ints, clamps)

-- what an even part of a window shares with another window is an even part of that
pub meet_part : (a before window : Region) → HasEvenCorners window → IsPartOf before a → IsPartOf window (meet a window)
meet_part a before window whole (inl e) =
    subst (λ (r : Region). IsPartOf window (meet r window)) (sym e) (meet_by (IsPartOf window) empty_region window (inl refl) (λ (some : IsOrdered (both empty_region window)). absurd (both_none window some)))
meet_part a before window whole (inr h) =
    meet_by (IsPartOf window) a window (inl refl) (λ (some : IsOrdered (both a window)). inr (record { inside = both_inside a window some; even = both_even a window h.even whole }))

both_in : (window a b : Region) → IsInside window a → IsOrdered (both a b) → IsInside window (both a b)
unfolding both
both_in window a b h some =
    let across = some.x in
    let along = some.y in
    record {
      west = omega (arith, ints, clamps, h.west);
      columns = across;
      east = omega (arith, ints, clamps, h.east);
      north = omega (arith, ints, clamps, h.north);
      rows = along;
      south = omega (arith, ints, clamps, h.south);
    }

-- what lies in a filled part of a window is one
pub meet_in : (window a b : Region) → IsFilledPart window a → IsFilledPart window (meet a b)
meet_in window a b (inl e) =
    subst (λ (r : Region). IsFilledPart window (meet r b)) (sym e) (meet_by (IsFilledPart window) empty_region b (inl refl) (λ (some : IsOrdered (both empty_region b)). absurd (both_none b some)))
meet_in window a b (inr h) =
    meet_by (IsFilledPart window) a b (inl refl) (λ (some : IsOrdered (both a b)). inr (both_in window a b h some))

each_within : (a b : Region) → Within a b → Within b a → a ≡ b
each_within a b h g =
    same_corners a b (omega (arith, ints)) (omega (arith, ints)) (omega (arith, ints)) (omega (arith, ints))

-- regions that have a cell and the same cells are one
pub same_is : (a b : Region) → IsInside a a → IsInside b b → same_region a b ≡ true → a ≡ b
unfolding same_region
same_is a b some some' e =
    let parts : (holds a b ≡ true) × (holds b a ≡ true) = and_parts (holds a b) (holds b a) e in
    each_within a b (within a b parts.0 (inside_some b b some')) (within b a parts.1 (inside_some a a some))
