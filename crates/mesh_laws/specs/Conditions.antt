-- What is true of the rings of a frame's active regions.
use Rattle.std.specs.Prelude.{◌≡◌, ℕ, ◌*◌, ◌^◌, ◌≤◌, ◌⊎◌, ℤ, pos, neg_ℤ, ◌*ℤ◌, ◌≤ℤ◌, List}
use Rattle.clip_regions.specs.declared.region.Region.{Region}
use Rattle.clip_regions.specs.Regions.{empty_region, columns, rows, IsWithin}
use Rattle.plan_model.specs.Laws.{IsEvenOrEmpty}
use Rattle.mesh_model.specs.Vertices.{hole}
use Rattle.mesh_laws.specs.declared.ring.Ring.{Ring}
use Rattle.mesh_laws.specs.Rings.{finer_of}

-- the cell in column i and row j lies in the region
pub record IsCell (r : Region) (i j : ℤ) : Type 0 where
  pub west : r.x0 ≤ℤ i
  pub east : i ≤ℤ r.x1
  pub north : r.y0 ≤ℤ j
  pub south : j ≤ℤ r.y1

-- the sample at this column or row of a level lies within 2^23 of the mosaic's corner
pub record IsNear (level : ℕ) (cell : ℤ) : Type 0 where
  pub low : neg_ℤ (pos (2 ^ 23)) ≤ℤ (cell *ℤ pos (2 ^ level))
  pub high : (cell *ℤ pos (2 ^ level)) ≤ℤ pos (2 ^ 23)

-- the hole has a cell and lies in the active region
pub record IsCut (active gap : Region) : Type 0 where
  pub west : active.x0 ≤ℤ gap.x0
  pub across : gap.x0 ≤ℤ gap.x1
  pub east : gap.x1 ≤ℤ active.x1
  pub north : active.y0 ≤ℤ gap.y0
  pub along : gap.y0 ≤ℤ gap.y1
  pub south : gap.y1 ≤ℤ active.y1

-- there is no hole, or it lies in the active region
abbrev pub HasHole : Region → Region → Type 0
HasHole active gap = (gap ≡ empty_region) ⊎ IsCut active gap

-- the region is one of at most 255 columns and rows, near the mosaic's corner
pub record IsSmall (r : Region) : Type 0 where
  pub near : IsWithin (2 ^ 24) r
  pub few_columns : columns r ≤ 255
  pub few_rows : rows r ≤ 255

-- the ring is small, its hole lies in it, and few vertices stand before its own
pub record IsRing (ring : Ring) : Type 0 where
  pub small : IsSmall ring.active
  pub cut : HasHole ring.active ring.hole
  pub few : ring.first ≤ 2 ^ 20

-- the ring comes after the finer one
pub record AreLinked (finer ring : Ring) : Type 0 where
  pub before : IsRing finer
  pub own : IsRing ring
  pub gap : ring.hole ≡ hole finer.active
  pub even : IsEvenOrEmpty finer.active

-- the ring stands before this level of the active regions
pub record IsBefore (actives : List Region) (level : ℕ) (ring : Ring) : Type 0 where
  pub own : IsRing ring
  pub region : ring.active ≡ finer_of actives level
  pub few : ring.first ≤ 65025 * level

-- the number is no farther from zero than n
pub record IsAtMost (n : ℕ) (x : ℤ) : Type 0 where
  pub low : neg_ℤ (pos n) ≤ℤ x
  pub high : x ≤ℤ pos n
