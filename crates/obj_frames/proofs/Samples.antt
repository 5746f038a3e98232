-- The filled regions of the tests: whole windows of a viewer at (1, 1), and nothing.
use Rattle.std.proofs.Common.{◌≡◌, ℕ, zero, suc, pos, [], ◌∷◌, refl, subst, sym, inl, inr, arith}
use Rattle.std.proofs.lemmas.Int.{ints}
use Rattle.clip_regions.specs.declared.region.Region.{Region}
use Rattle.clip_regions.specs.FloorDivision.{floor_rem}
use Rattle.clip_regions.specs.Regions.{HasEvenCorners, empty_region, is_empty}
use Rattle.plan_model.specs.Window.{window}
use Rattle.plan_model.specs.Sound.{IsInside, IsPartOf, IsShown}
use Rattle.active_region.specs.Active.{AreFilled}
use Rattle.active_region.proofs.Samples.{round, window_finest, window_next, viewed}

inside : IsInside round round
inside = record { west = omega (arith, ints); columns = omega (arith, ints); east = omega (arith, ints); north = omega (arith, ints); rows = omega (arith, ints); south = omega (arith, ints) }

even : HasEvenCorners round
unfolding floor_rem
even = record { x0 = refl; y0 = refl; x1 = refl; y1 = refl }

shown : (level : ℕ) → window 4 level (pos 1) (pos 1) ≡ round → IsShown 4 level round
shown level at = record {
  x = pos 1;
  y = pos 1;
  column = viewed;
  row = viewed;
  part = subst (λ (w : Region). IsPartOf w round) (sym at) (inr (record { inside = inside; even = even }));
}

pub whole : AreFilled 4 (round ∷ round ∷ [])
whole zero listed = inr (shown 0 window_finest)
whole (suc zero) listed = inr (shown 1 window_next)
whole (suc (suc level)) listed = absurd (omega arith)

pub nothing : AreFilled 4 (empty_region ∷ [])
unfolding is_empty
nothing zero listed = inl refl
nothing (suc level) listed = absurd (omega arith)
