-- A region in a window is short and lies near the mosaic's corner.
use Rattle.std.proofs.Common.{ℕ, ◌^◌, ◌≤◌, ℤ, pos, ◌-ℤ◌, ◌≤ℤ◌, arith}
use Rattle.std.proofs.lemmas.Int.{ints}
use Rattle.clip_regions.specs.declared.region.Region.{Region}
use Rattle.clip_regions.specs.Regions.{IsWithin}
use Rattle.plan_model.specs.Window.{window, half_width}
use Rattle.plan_model.specs.Sound.{IsInside}
use Rattle.plan_laws.specs.Hulls.{InsideIsHeld}
use Rattle.plan_sound.specs.Laws.{WindowsAreNear}
use Rattle.strip_planner.specs.Planned.{RegionsInWindowsArePlanned}
use Rattle.strip_planner.proofs.Masks.{half_at_most}

near_from : (n : ℕ) (w r : Region) → IsWithin n w → IsInside w r → IsWithin n r
near_from n w r near inside = record {
  x0_low = omega (arith, ints);
  x0_high = omega (arith, ints);
  y0_low = omega (arith, ints);
  y0_high = omega (arith, ints);
  x1_low = omega (arith, ints);
  x1_high = omega (arith, ints);
  y1_low = omega (arith, ints);
  y1_high = omega (arith, ints);
}

wide : (k level : ℕ) (x y : ℤ) → 4 ≤ k → k ≤ 8 → ((window k level x y).x1 -ℤ (window k level x y).x0) ≤ℤ pos 254
unfolding window
wide k level x y low high = let half : half_width k ≤ 127 = half_at_most k low high in omega (arith, ints)

high_by : (k level : ℕ) (x y : ℤ) → 4 ≤ k → k ≤ 8 → ((window k level x y).y1 -ℤ (window k level x y).y0) ≤ℤ pos 254
unfolding window
high_by k level x y low high = let half : half_width k ≤ 127 = half_at_most k low high in omega (arith, ints)

across : (w r : Region) → (w.x1 -ℤ w.x0) ≤ℤ pos 254 → IsInside w r → (r.x1 -ℤ r.x0) ≤ℤ pos 254
across w r short inside = omega (arith, ints)

along : (w r : Region) → (w.y1 -ℤ w.y0) ≤ℤ pos 254 → IsInside w r → (r.y1 -ℤ r.y0) ≤ℤ pos 254
along w r short inside = omega (arith, ints)

pub regions_in_windows_are_planned : WindowsAreNear → InsideIsHeld → RegionsInWindowsArePlanned
regions_in_windows_are_planned near law k level x y r size vx vy held = record {
  near = λ some. near_from (2 ^ 24) (window k level x y) r (near k level x y size vx vy) ((law (window k level x y) r).1 (some, held));
  columns = λ some. across (window k level x y) r (wide k level x y size.low size.high) ((law (window k level x y) r).1 (some, held));
  rows = λ some. along (window k level x y) r (high_by k level x y size.low size.high) ((law (window k level x y) r).1 (some, held));
}
