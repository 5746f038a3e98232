-- How long the regions of a level may be.
use Rattle.std.specs.Prelude.{pos, ◌-ℤ◌, ◌≤ℤ◌}
use Rattle.clip_regions.specs.declared.region.Region.{Region}

-- a region has no more than 256 columns and rows
pub record IsShort (r : Region) : Type 0 where
  pub columns : (r.x1 -ℤ r.x0) ≤ℤ pos 255
  pub rows : (r.y1 -ℤ r.y0) ≤ℤ pos 255
