-- Which cells a mesh may have.
use Rattle.std.specs.Prelude.{ℕ, ◌^◌, ℤ, pos, neg_ℤ, ◌+ℤ◌, ◌*ℤ◌, ◌≤ℤ◌}
use Rattle.mesh_plain_heights.specs.declared.places.Cell.{Cell}
use Rattle.clip_regions.specs.declared.region.Region.{Region}

-- a coordinate of a level lies within 2^24 samples of the mosaic's corner
pub record IsPlacedAt (level : ℕ) (i : ℤ) : Type 0 where
  pub low : neg_ℤ (pos (2 ^ 24)) ≤ℤ (i *ℤ pos (2 ^ level))
  pub high : (i *ℤ pos (2 ^ level)) ≤ℤ pos (2 ^ 24)
  pub small_low : neg_ℤ (pos (2 ^ 24)) ≤ℤ i
  pub small_high : i ≤ℤ pos (2 ^ 24)

-- the squares whose north-west corners are the cells of a region have all their corners so near
pub record ArePlaced (level : ℕ) (squares : Region) : Type 0 where
  pub west : IsPlacedAt level squares.x0
  pub north : IsPlacedAt level squares.y0
  pub east : IsPlacedAt level (squares.x1 +ℤ pos 1)
  pub south : IsPlacedAt level (squares.y1 +ℤ pos 1)

-- the square whose north-west corner is this cell has all its corners so near
pub record IsSquarePlaced (cell : Cell) : Type 0 where
  pub west : IsPlacedAt cell.level cell.i
  pub north : IsPlacedAt cell.level cell.j
  pub east : IsPlacedAt cell.level (cell.i +ℤ pos 1)
  pub south : IsPlacedAt cell.level (cell.j +ℤ pos 1)

-- a cell lies within 2^24 columns and rows of cell (0, 0)
pub record IsNearCell (cell : Cell) : Type 0 where
  pub west : neg_ℤ (pos (2 ^ 24)) ≤ℤ cell.i
  pub east : cell.i ≤ℤ pos (2 ^ 24)
  pub north : neg_ℤ (pos (2 ^ 24)) ≤ℤ cell.j
  pub south : cell.j ≤ℤ pos (2 ^ 24)
