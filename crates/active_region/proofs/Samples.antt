-- The filled regions of the tests lie in the windows of a viewer at (1, 1).
use Rattle.std.proofs.Common.{◌≡◌, ℕ, zero, suc, ◌<◌, pos, negsuc, [], ◌∷◌, refl, subst, sym, inr, arith}
use Rattle.std.proofs.lemmas.Int.{ints}
use Rattle.clip_regions.specs.declared.region.Region.{Region}
use Rattle.clip_regions.specs.FloorDivision.{floor_div, floor_rem}
use Rattle.clip_regions.specs.Regions.{HasEvenCorners}
use Rattle.plan_model.specs.Limits.{IsViewed}
use Rattle.plan_model.specs.Window.{window, center, half_width}
use Rattle.plan_model.specs.Sound.{IsInside, IsPartOf, IsShown}
use Rattle.active_region.specs.Active.{AreFilled}

abbrev pub round : Region
round = record { x0 = negsuc 5; y0 = negsuc 5; x1 = pos 8; y1 = pos 8 }

pub window_finest : window 4 0 (pos 1) (pos 1) ≡ round
unfolding window center half_width floor_div
window_finest = refl

pub window_next : window 4 1 (pos 1) (pos 1) ≡ round
unfolding window center half_width floor_div
window_next = refl

pub viewed : IsViewed (pos 1)
viewed = record { low = omega (arith, ints); high = omega (arith, ints) }

shown : (level : ℕ) (r : Region) → window 4 level (pos 1) (pos 1) ≡ round → IsInside round r → HasEvenCorners r → IsShown 4 level r
shown level r at inside even = record {
  x = pos 1;
  y = pos 1;
  column = viewed;
  row = viewed;
  part = subst (λ (w : Region). IsPartOf w r) (sym at) (inr (record { inside = inside; even = even }));
}

abbrev square : ℕ → Region
square n = record { x0 = pos 0; y0 = pos 0; x1 = pos n; y1 = pos n }

square_inside : (n : ℕ) → n < 9 → IsInside round (square n)
square_inside n h = record { west = omega (arith, ints); columns = omega (arith, ints); east = omega (arith, ints); north = omega (arith, ints); rows = omega (arith, ints); south = omega (arith, ints) }

square_even : (n : ℕ) → floor_rem (pos n) 2 ≡ 0 → HasEvenCorners (square n)
unfolding floor_rem
square_even n h = record { x0 = refl; y0 = refl; x1 = h; y1 = h }

even_2 : floor_rem (pos 2) 2 ≡ 0
unfolding floor_rem
even_2 = refl

even_6 : floor_rem (pos 6) 2 ≡ 0
unfolding floor_rem
even_6 = refl

even_8 : floor_rem (pos 8) 2 ≡ 0
unfolding floor_rem
even_8 = refl

two_filled : (n : ℕ) → n < 9 → floor_rem (pos n) 2 ≡ 0 → AreFilled 4 (square 8 ∷ square n ∷ [])
two_filled n h e zero inside = inr (shown 0 (square 8) window_finest (square_inside 8 (omega arith)) (square_even 8 even_8))
two_filled n h e (suc zero) inside = inr (shown 1 (square n) window_next (square_inside n h) (square_even n e))
two_filled n h e (suc (suc level)) inside = absurd (omega arith)

pub filled : AreFilled 4 (square 8 ∷ square 6 ∷ [])
filled = two_filled 6 (omega arith) even_6

pub narrow : AreFilled 4 (square 8 ∷ square 2 ∷ [])
narrow = two_filled 2 (omega arith) even_2
