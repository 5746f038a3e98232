-- Where the windows of the levels lie, and what lies in them: near the mosaic's corner, and windows have cells.
use Rattle.std.proofs.Common.{ℕ, ◌+◌, ◌-◌, ◌/◌, ◌^◌, ◌≤◌, ℤ, pos, negsuc, neg_ℤ, ◌≤ℤ◌, subst, sym, inl, inr, arith}
use Rattle.std.proofs.lemmas.Int.{ints}
use Rattle.std.proofs.Math.Nat.{div-le_self}
use Rattle.std.proofs.Math.Pow.{pow_mono}
use Rattle.clip_regions.specs.declared.region.Region.{Region}
use Rattle.clip_regions.specs.FloorDivision.{floor_div}
use Rattle.clip_regions.specs.Regions.{empty_region, IsWithin}
use Rattle.plan_model.specs.Window.{window, center, half_width}
use Rattle.plan_model.specs.Limits.{IsViewed}
use Rattle.plan_model.specs.Sound.{IsInside, IsPartOf}
use Rattle.plan_sound.specs.Laws.{WindowsAreNear, WindowsHaveCells}

-- a quotient lies no farther from zero than its number
quotient_viewed : (v : ℤ) (d : ℕ) → IsViewed v → IsViewed (floor_div v d)
unfolding floor_div
quotient_viewed (pos n) d h =
    let less : n / d ≤ n = div-le_self n d in
    record { low = omega (arith, ints); high = omega (arith, ints, less) }
quotient_viewed (negsuc n) d h =
    let less : n / d ≤ n = div-le_self n d in
    record { low = omega (arith, ints, less); high = omega (arith, ints) }

record IsCentre (z : ℤ) : Type 0 where
  low : neg_ℤ (pos 8388609) ≤ℤ z
  high : z ≤ℤ pos 8388609

centre_near : (level : ℕ) (v : ℤ) → IsViewed v → IsCentre (center level v)
unfolding center
centre_near level v h =
    let q : IsViewed (floor_div v (2 ^ (level + 1))) = quotient_viewed v (2 ^ (level + 1)) h in
    let low = q.low in
    let high = q.high in
    record { low = omega (arith, ints); high = omega (arith, ints) }

power_least : (a b : ℕ) → a ≤ b → 2 ^ a ≤ 2 ^ b
power_least a b h = pow_mono h

pub half_small : (k : ℕ) → k ≤ 8 → half_width k ≤ 127
unfolding half_width
half_small k h =
    let power : 2 ^ (k - 1) ≤ 2 ^ 7 = power_least (k - 1) 7 (omega arith) in
    omega (arith, power)

-- a window lies near the mosaic's corner
pub window_within : WindowsAreNear
unfolding window
window_within k level x y h vx vy =
    let half : half_width k ≤ 127 = half_small k h.high in
    let column : IsCentre (center level x) = centre_near level x vx in
    let row : IsCentre (center level y) = centre_near level y vy in
    record {
      x0_low = omega (arith, ints);
      x0_high = omega (arith, ints);
      y0_low = omega (arith, ints);
      y0_high = omega (arith, ints);
      x1_low = omega (arith, ints);
      x1_high = omega (arith, ints);
      y1_low = omega (arith, ints);
      y1_high = omega (arith, ints);
    }

-- and it has a cell
pub window_inside : WindowsHaveCells
unfolding window
window_inside k level x y = record {
  west = omega (arith, ints);
  columns = omega (arith, ints);
  east = omega (arith, ints);
  north = omega (arith, ints);
  rows = omega (arith, ints);
  south = omega (arith, ints);
}

-- what lies in a region that lies near the corner does so too
pub inside_near : (n : ℕ) (window r : Region) → IsWithin n window → IsInside window r → IsWithin n r
inside_near n window r w h = record {
  x0_low = omega (arith, ints);
  x0_high = omega (arith, ints);
  y0_low = omega (arith, ints);
  y0_high = omega (arith, ints);
  x1_low = omega (arith, ints);
  x1_high = omega (arith, ints);
  y1_low = omega (arith, ints);
  y1_high = omega (arith, ints);
}

pub empty_near : (n : ℕ) → 1 ≤ n → IsWithin n empty_region
empty_near n h = record {
  x0_low = omega (arith, ints);
  x0_high = omega (arith, ints);
  y0_low = omega (arith, ints);
  y0_high = omega (arith, ints);
  x1_low = omega (arith, ints);
  x1_high = omega (arith, ints);
  y1_low = omega (arith, ints);
  y1_high = omega (arith, ints);
}

-- so does a part of it
pub part_near : (n : ℕ) (window r : Region) → 1 ≤ n → IsWithin n window → IsPartOf window r → IsWithin n r
part_near n window r h w (inl e) = subst (IsWithin n) (sym e) (empty_near n h)
part_near n window r h w (inr i) = inside_near n window r w i.inside
