-- Regions: their one spelling of no cell, where they lie, and what can be drawn of them.
use Rattle.std.proofs.Common.{◌≡◌, ℕ, ◌≤◌, true, false, ◌||◌, pos, ◌+ℤ◌, ◌-ℤ◌, refl, sym, ◌∙◌, subst, inl, inr, arith}
use Rattle.std.proofs.lemmas.Int.{ints, clamps}
use Rattle.std.proofs.lemmas.Bool.{cond_both, or_parts, true≢false}
use lib.Signed.{lt_z}
use Rattle.clip_regions.specs.declared.region.Region.{Region}
use Rattle.clip_regions.specs.Regions.{is_empty, empty_region, meet, erode, IsWithin}
use Rattle.plan_model.specs.Actives.{drawable}
use Rattle.plan_model.specs.Sound.{IsInside, IsPartOf}
use Rattle.active_region.specs.Active.{IsWide, IsWideOrEmpty}
use Rattle.clip_regions.proofs.Cells.{tested_not_lt, HasCell, not_empty, spelled_by, both, empty_within}

-- ---- one spelling of the empty region
meet_by : (P : Region → Type 0) (a b : Region) → P empty_region → (HasCell (both a b) → P (both a b)) → P (meet a b)
unfolding meet both
meet_by P a b at_empty at_other = spelled_by P (both a b) at_empty at_other

cell_of_left : (a b : Region) → HasCell (both a b) → HasCell a
unfolding both
cell_of_left a b some =
    let across = some.across in
    let along = some.along in
    record { across = omega (arith, ints, clamps); along = omega (arith, ints, clamps) }

-- what meets a region without a cell has none
pub meet_none : (a b : Region) → is_empty a ≡ true → meet a b ≡ empty_region
meet_none a b none =
    meet_by (λ (q : Region). q ≡ empty_region) a b refl (λ (some : HasCell (both a b)). absurd (true≢false (sym none ∙ not_empty a (cell_of_left a b some))))

-- ---- near the mosaic's corner
both_within : (n : ℕ) (a b : Region) → IsWithin n a → HasCell (both a b) → IsWithin n (both a b)
unfolding both
both_within n a b w some =
    let across = some.across in
    let along = some.along in
    record {
      x0_low = omega (arith, ints, clamps);
      x0_high = omega (arith, ints, clamps);
      y0_low = omega (arith, ints, clamps);
      y0_high = omega (arith, ints, clamps);
      x1_low = omega (arith, ints, clamps);
      x1_high = omega (arith, ints, clamps);
      y1_low = omega (arith, ints, clamps);
      y1_high = omega (arith, ints, clamps);
    }

pub meet_within : (n : ℕ) (a b : Region) → 1 ≤ n → IsWithin n a → IsWithin n (meet a b)
meet_within n a b h w = meet_by (IsWithin n) a b (empty_within n h) (both_within n a b w)

inset : Region → ℕ → Region
inset r e = record { x0 = r.x0 +ℤ pos e; y0 = r.y0 +ℤ pos e; x1 = r.x1 -ℤ pos e; y1 = r.y1 -ℤ pos e }

inset_within : (n : ℕ) (r : Region) (e : ℕ) → IsWithin n r → HasCell (inset r e) → IsWithin n (inset r e)
unfolding inset
inset_within n r e w some =
    let across = some.across in
    let along = some.along in
    record {
      x0_low = omega (arith, ints);
      x0_high = omega (arith, ints);
      y0_low = omega (arith, ints);
      y0_high = omega (arith, ints);
      x1_low = omega (arith, ints);
      x1_high = omega (arith, ints);
      y1_low = omega (arith, ints);
      y1_high = omega (arith, ints);
    }

pub erode_within : (n : ℕ) (r : Region) (e : ℕ) → 1 ≤ n → IsWithin n r → IsWithin n (erode r (pos e))
unfolding erode inset
erode_within n r e h w = spelled_by (IsWithin n) (inset r e) (empty_within n h) (inset_within n r e w)

inside_within : (n : ℕ) (window r : Region) → IsWithin n window → IsInside window r → IsWithin n r
inside_within n window r w h = record {
  x0_low = omega (arith, ints);
  x0_high = omega (arith, ints);
  y0_low = omega (arith, ints);
  y0_high = omega (arith, ints);
  x1_low = omega (arith, ints);
  x1_high = omega (arith, ints);
  y1_low = omega (arith, ints);
  y1_high = omega (arith, ints);
}

-- a part of a window lies as near as the window
pub part_within : (n : ℕ) (window r : Region) → 1 ≤ n → IsWithin n window → IsPartOf window r → IsWithin n r
part_within n window r h w (inl e) = subst (IsWithin n) (sym e) (empty_within n h)
part_within n window r h w (inr i) = inside_within n window r w i.inside

-- ---- what can be drawn of a region
pub drawable_narrow : (r : Region) → lt_z (r.x1 -ℤ r.x0) (pos 2) ≡ true → drawable r ≡ empty_region
unfolding drawable
drawable_narrow r h = rw h

pub drawable_low : (r : Region) → lt_z (r.x1 -ℤ r.x0) (pos 2) ≡ false → lt_z (r.y1 -ℤ r.y0) (pos 2) ≡ true → drawable r ≡ empty_region
unfolding drawable
drawable_low r h g = rw (h, g)

pub drawable_other : (r : Region) → lt_z (r.x1 -ℤ r.x0) (pos 2) ≡ false → lt_z (r.y1 -ℤ r.y0) (pos 2) ≡ false → drawable r ≡ r
unfolding drawable
drawable_other r h g = rw (h, g)

wide_from : (r : Region) → lt_z (r.x1 -ℤ r.x0) (pos 2) ≡ false → lt_z (r.y1 -ℤ r.y0) (pos 2) ≡ false → IsWide r
wide_from r across along = record {
  across = tested_not_lt (r.x1 -ℤ r.x0) (pos 2) across;
  along = tested_not_lt (r.y1 -ℤ r.y0) (pos 2) along;
}

-- by the tests of its two sides: where one is short it is empty, and else it is the region
drawable_by : (P : Region → Type 0) (r : Region) → P empty_region → (IsWide r → P r) → P (drawable r)
unfolding drawable
drawable_by P r at_empty at_wide =
    cond_both (lt_z (r.x1 -ℤ r.x0) (pos 2) || lt_z (r.y1 -ℤ r.y0) (pos 2)) empty_region r P (λ e. at_empty) (λ e.
    let parts : (lt_z (r.x1 -ℤ r.x0) (pos 2) ≡ false) × (lt_z (r.y1 -ℤ r.y0) (pos 2) ≡ false) = or_parts (lt_z (r.x1 -ℤ r.x0) (pos 2)) (lt_z (r.y1 -ℤ r.y0) (pos 2)) e in
    at_wide (wide_from r parts.0 parts.1))

wide_has_cell : (r : Region) → IsWide r → HasCell r
wide_has_cell r h = record { across = omega (arith, ints); along = omega (arith, ints) }

pub drawable_none : (r : Region) → is_empty r ≡ true → drawable r ≡ empty_region
drawable_none r none =
    drawable_by (λ (q : Region). q ≡ empty_region) r refl (λ (wide : IsWide r). absurd (true≢false (sym none ∙ not_empty r (wide_has_cell r wide))))

pub drawable_wide : (r : Region) → IsWideOrEmpty (drawable r)
drawable_wide r = drawable_by IsWideOrEmpty r (inl refl) (λ (wide : IsWide r). inr wide)

pub drawable_within : (n : ℕ) (r : Region) → 1 ≤ n → IsWithin n r → IsWithin n (drawable r)
drawable_within n r h w = drawable_by (IsWithin n) r (empty_within n h) (λ (wide : IsWide r). w)
