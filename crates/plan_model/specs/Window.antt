-- The window of a level: the square of cells round the viewer that a level keeps. K sets its size, and level 0 is the
-- finest.
use Rattle.std.specs.Prelude.{ℕ, ◌+◌, ◌-◌, ◌^◌, max, ℤ, pos, neg_ℤ, ◌+ℤ◌, ◌-ℤ◌, ◌*ℤ◌, ◌≤ℤ◌}
use Rattle.clip_regions.specs.declared.region.Region.{Region}
use Rattle.clip_regions.specs.FloorDivision.{floor_div}

-- the side of the torus, m: a level's cells are kept at their places modulo m
unfoldable pub torus_side : ℕ → ℕ
torus_side k = 2 ^ k

-- how many cells a window reaches from its centre, on each side: H
unfoldable pub half_width : ℕ → ℕ
half_width k = 2 ^ (k - 1) - 1

-- how many cells of a level's border blend into the coarser level: w
unfoldable pub blend_width : ℕ → ℕ
blend_width k = 2 ^ (k - 4)

-- how many coarser cells lie round a finer active region at least: e
unfoldable pub margin : ℕ → ℕ
margin k = max 2 (blend_width k)

-- the centre of a level's window on an axis, for a viewer at v: odd, v's own cell or the next, never the one before
unfoldable pub center : ℕ → ℤ → ℤ
center level v = pos 2 *ℤ floor_div v (2 ^ (level + 1)) +ℤ pos 1

-- the window of a level for a viewer at (x, y): half a width round the centre, on both axes
unfoldable pub window : ℕ → ℕ → ℤ → ℤ → Region
window k level x y = record {
  x0 = center level x -ℤ pos (half_width k);
  y0 = center level y -ℤ pos (half_width k);
  x1 = center level x +ℤ pos (half_width k);
  y1 = center level y +ℤ pos (half_width k);
}

-- the cells of a level between those corners lie within 2^23 samples of the mosaic's corner
pub record IsInReach (level : ℕ) (r : Region) : Type 0 where
  pub west : neg_ℤ (pos (2 ^ 23)) ≤ℤ (r.x0 *ℤ pos (2 ^ level))
  pub north : neg_ℤ (pos (2 ^ 23)) ≤ℤ (r.y0 *ℤ pos (2 ^ level))
  pub east : (r.x1 *ℤ pos (2 ^ level)) ≤ℤ pos (2 ^ 23)
  pub south : (r.y1 *ℤ pos (2 ^ level)) ≤ℤ pos (2 ^ 23)
