-- The drawable part of a region by cases on its sides, and active regions: where they lie, and one more of them.
use Rattle.std.proofs.Common.{◌≡◌, ℕ, zero, suc, ◌≤◌, ◌++◌, length, replicate, drop, refl, ap, true, false, ◌||◌, pos, ◌+ℤ◌, ◌-ℤ◌, List, [], ◌∷◌, arith}
use Rattle.std.specs.List.{All}
use Rattle.std.proofs.lemmas.Int.{ints}
use Rattle.std.proofs.lemmas.Bool.{cond_both}
use Rattle.std.proofs.lemmas.List.Elements.{All-nil, All-cons, All-head, All-tail}
use lib.Signed.{lt_z}
use Rattle.clip_regions.specs.declared.region.Region.{Region}
use Rattle.clip_regions.specs.Regions.{empty_region, meet, erode, IsWithin}
use Rattle.plan_model.specs.Actives.{drawable, inner, active_of, actives_by, filled_from}
use Rattle.plan_plain_pieces.proofs.Near.{meet_within}
use Rattle.plan_sound.proofs.Parts.{IsOrdered, spelled_by}
use Rattle.clip_regions.proofs.Cells.{empty_within}

pub drawable_narrow : (r : Region) → lt_z (r.x1 -ℤ r.x0) (pos 2) ≡ true → drawable r ≡ empty_region
unfolding drawable
drawable_narrow r h = rw h

pub drawable_low : (r : Region) → lt_z (r.x1 -ℤ r.x0) (pos 2) ≡ false → lt_z (r.y1 -ℤ r.y0) (pos 2) ≡ true → drawable r ≡ empty_region
unfolding drawable
drawable_low r h g = rw (h, g)

pub drawable_other : (r : Region) → lt_z (r.x1 -ℤ r.x0) (pos 2) ≡ false → lt_z (r.y1 -ℤ r.y0) (pos 2) ≡ false → drawable r ≡ r
unfolding drawable
drawable_other r h g = rw (h, g)

-- ---- near the mosaic's corner
inset : Region → ℕ → Region
inset r e = record { x0 = r.x0 +ℤ pos e; y0 = r.y0 +ℤ pos e; x1 = r.x1 -ℤ pos e; y1 = r.y1 -ℤ pos e }

inset_within : (n : ℕ) (r : Region) (e : ℕ) → IsWithin n r → IsOrdered (inset r e) → IsWithin n (inset r e)
unfolding inset
inset_within n r e w some =
    let across = some.x in
    let along = some.y in
    record {
      x0_low = omega (arith, ints);
      x0_high = omega (arith, ints);
      y0_low = omega (arith, ints);
      y0_high = omega (arith, ints);
      x1_low = omega (arith, ints);
      x1_high = omega (arith, ints);
      y1_low = omega (arith, ints);
      y1_high = omega (arith, ints);
    }

-- a region whose ends are moved inwards lies as near the corner as before
pub erode_within : (n : ℕ) (r : Region) (e : ℕ) → 1 ≤ n → IsWithin n r → IsWithin n (erode r (pos e))
unfolding erode inset
erode_within n r e h w = spelled_by (IsWithin n) (inset r e) (empty_within n h) (inset_within n r e w)

drawable_within : (n : ℕ) (r : Region) → 1 ≤ n → IsWithin n r → IsWithin n (drawable r)
unfolding drawable
drawable_within n r h w =
    cond_both (lt_z (r.x1 -ℤ r.x0) (pos 2) || lt_z (r.y1 -ℤ r.y0) (pos 2)) empty_region r (IsWithin n) (λ e. empty_within n h) (λ e. w)

active_within : (n e : ℕ) (filled : Region) (rest : List Region) → 1 ≤ n → IsWithin n filled → IsWithin n (active_of e filled rest)
active_within n e filled [] h w = drawable_within n filled h w
active_within n e filled (coarser ∷ rest) h w =
    drawable_within n (meet filled (inner e coarser)) h (meet_within n filled (inner e coarser) h w)

-- active regions lie as near the corner as the filled ones
pub actives_within : (n e : ℕ) (filled : List Region) → 1 ≤ n → All (IsWithin n) filled → All (IsWithin n) (actives_by e filled)
actives_within n e [] h all = All-nil (IsWithin n)
actives_within n e (filled ∷ rest) h all =
    All-cons (IsWithin n) (active_of e filled (actives_by e rest)) (actives_by e rest) (active_within n e filled (actives_by e rest) h (All-head (IsWithin n) filled rest all)) (actives_within n e rest h (All-tail (IsWithin n) filled rest all))

-- ---- levels that are left out
pub filled_from_is : (finest : ℕ) (filled : List Region) → finest ≤ length filled → filled_from finest filled ≡ replicate finest empty_region ++ drop finest filled
filled_from_is zero [] h = refl
filled_from_is zero (r ∷ rest) h = refl
filled_from_is (suc finest) [] h = absurd (omega arith)
filled_from_is (suc finest) (r ∷ rest) h = ap (λ (rs : List Region). empty_region ∷ rs) (filled_from_is finest rest (omega arith))

pub filled_from_within : (n finest : ℕ) (filled : List Region) → 1 ≤ n → All (IsWithin n) filled → All (IsWithin n) (filled_from finest filled)
filled_from_within n finest [] h all = All-nil (IsWithin n)
filled_from_within n zero (r ∷ rest) h all = all
filled_from_within n (suc finest) (r ∷ rest) h all =
    All-cons (IsWithin n) empty_region (filled_from finest rest) (empty_within n h) (filled_from_within n finest rest h (All-tail (IsWithin n) r rest all))
