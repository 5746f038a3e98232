-- The squares of a ring, and their rows.
use Rattle.std.specs.Prelude.{ℕ, ◌^◌, pos, ◌+ℤ◌, ◌≤ℤ◌, List, flat_map}
use Rattle.std.specs.List.{range_with_len}
use Rattle.clip_regions.specs.declared.region.Region.{Region}
use Rattle.clip_regions.specs.Regions.{columns, IsWithin}
use Rattle.mesh_laws.specs.declared.ring.Ring.{Ring}
use Rattle.mesh_laws.specs.Rings.{ring_square}

-- the four corners of the squares with these north-west corners are cells of the region
pub record HasSquares (r squares : Region) : Type 0 where
  pub near : IsWithin (2 ^ 24) r
  pub placed : IsWithin (2 ^ 25) squares
  pub west : r.x0 ≤ℤ squares.x0
  pub east : (squares.x1 +ℤ pos 1) ≤ℤ r.x1
  pub north : r.y0 ≤ℤ squares.y0
  pub south : (squares.y1 +ℤ pos 1) ≤ℤ r.y1

-- the triangles of row v of these squares, from the west
unfoldable pub square_row : Ring → Ring → Region → ℕ → List (List ℕ)
square_row finer ring squares v =
    flat_map (λ u. ring_square finer ring (squares.x0 +ℤ pos u) (squares.y0 +ℤ pos v))
    (range_with_len 0 (columns squares))
