-- Which lists of active regions the plain program draws.
use Rattle.std.specs.Prelude.{ℕ, ◌+◌, List, [], ◌∷◌}
use Rattle.clip_regions.specs.declared.region.Region.{Region}
use Rattle.mesh_plain_heights.specs.Placed.{IsPlacedAt}
use Rattle.mesh_plain.specs.Rings.{IsActive}

-- an active region of a level whose cells lie within 2^24 samples of the mosaic's corner
pub record IsDrawn (level : ℕ) (r : Region) : Type 0 where
  pub active : IsActive r
  pub west : IsPlacedAt level r.x0
  pub north : IsPlacedAt level r.y0
  pub east : IsPlacedAt level r.x1
  pub south : IsPlacedAt level r.y1

-- active regions of the levels from this one on
abbrev pub AreDrawn : ℕ → List Region → Type 0
AreDrawn level [] = Unit {0}
AreDrawn level (r ∷ rs) = IsDrawn level r × AreDrawn (level + 1) rs
