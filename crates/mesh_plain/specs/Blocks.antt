-- Rectangles between four lines of a level.
use Rattle.std.specs.Prelude.{ℕ}
use Rattle.clip_regions.specs.declared.region.Region.{Region}
use Rattle.mesh_plain_heights.specs.Placed.{IsPlacedAt}

-- all four corners lie within 2^24 samples of the mosaic's corner
pub record HasPlacedCorners (level : ℕ) (r : Region) : Type 0 where
  pub west : IsPlacedAt level r.x0
  pub north : IsPlacedAt level r.y0
  pub east : IsPlacedAt level r.x1
  pub south : IsPlacedAt level r.y1
