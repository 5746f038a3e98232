-- How many triangles of a mesh go from one position to another, in closed form: level by level, squares and stitches.
use Rattle.std.specs.Prelude.{ℕ, ◌+◌, Bool, false, ◌&&◌, ◌==◌, ℤ, pos, negsuc, ◌+ℤ◌, ◌-ℤ◌, List, [], ◌∷◌, count_by, if◌then◌else◌}
use Rattle.std.specs.Ordering.{int_eq}
use Rattle.clip_regions.specs.declared.region.Region.{Region}
use Rattle.clip_regions.specs.FloorDivision.{floor_div, floor_rem}
use Rattle.clip_regions.specs.Regions.{contains, empty_region}
use Rattle.mesh_model.specs.Vertices.{hole}
use Rattle.mesh_laws.specs.Squares.{part_squares}

-- where a position stands on a level: at a cell, or at none of the level's cells
pub data Spot : Type 0 where
  Nowhere : Spot
  At : ℤ → ℤ → Spot

-- the spot is the cell in column i and row j
abbrev pub is_at : Spot → ℤ → ℤ → Bool
is_at Nowhere i j = false
is_at (At x z) i j = int_eq i x && int_eq j z

-- where the same position stands on the next coarser level
abbrev pub coarser_spot : Spot → Spot
coarser_spot Nowhere = Nowhere
coarser_spot (At x z) =
    if floor_rem x 2 == 0 && floor_rem z 2 == 0 then At (floor_div x 2) (floor_div z 2) else Nowhere

-- where dx columns and dz rows lead from one spot to the other, this count of the cell where the step begins, else 0
abbrev pub by_step : ℤ → ℤ → (ℤ → ℤ → ℕ) → Spot → Spot → ℕ
by_step dx dz count Nowhere q = 0
by_step dx dz count (At x z) Nowhere = 0
by_step dx dz count (At x z) (At x' z') =
    if int_eq x' (x +ℤ dx) && int_eq z' (z +ℤ dz) then count x z else 0

-- in how many parts of an active region the square with this north-west corner is: 1 or 0
unfoldable pub squares_at : Region → Region → ℤ → ℤ → ℕ
squares_at finer active x z = count_by (λ squares. contains squares x z) (part_squares finer active)

-- how many triangles of a ring's squares go from one spot to the other: south, east and back; across, north and west
unfoldable pub ring_edges : Region → Region → Spot → Spot → ℕ
ring_edges finer active p q =
    let squares = squares_at finer active in
    ((by_step (pos 0) (pos 1) squares p q
    + by_step (pos 1) (pos 0) (λ x z. squares x (z -ℤ pos 1)) p q)
    + by_step (negsuc 0) (negsuc 0) (λ x z. squares (x -ℤ pos 1) (z -ℤ pos 1)) p q)
    + ((by_step (pos 1) (pos 1) squares p q
    + by_step (pos 0) (negsuc 0) (λ x z. squares (x -ℤ pos 1) (z -ℤ pos 1)) p q)
    + by_step (negsuc 0) (pos 0) (λ x z. squares (x -ℤ pos 1) z) p q)

-- 1 where the region has the cell, else 0
unfoldable pub has_cell_at : Region → ℤ → ℤ → ℕ
has_cell_at r x z = if contains r x z then 1 else 0

-- the cells from which the steps of a walk clockwise round a region begin, side by side
unfoldable pub north_steps : Region → Region
north_steps r = record { x0 = r.x0; y0 = r.y0; x1 = r.x1 -ℤ pos 1; y1 = r.y0 }

unfoldable pub east_steps : Region → Region
east_steps r = record { x0 = r.x1; y0 = r.y0; x1 = r.x1; y1 = r.y1 -ℤ pos 1 }

unfoldable pub south_steps : Region → Region
south_steps r = record { x0 = r.x0 +ℤ pos 1; y0 = r.y1; x1 = r.x1; y1 = r.y1 }

unfoldable pub west_steps : Region → Region
west_steps r = record { x0 = r.x0; y0 = r.y0 +ℤ pos 1; x1 = r.x0; y1 = r.y1 }

-- how many steps of a walk clockwise round a region lead from one spot to the other
unfoldable pub border_edges : Region → Spot → Spot → ℕ
border_edges r p q =
    (by_step (pos 1) (pos 0) (has_cell_at (north_steps r)) p q
    + by_step (pos 0) (pos 1) (has_cell_at (east_steps r)) p q)
    + (by_step (negsuc 0) (pos 0) (has_cell_at (south_steps r)) p q
    + by_step (pos 0) (negsuc 0) (has_cell_at (west_steps r)) p q)

-- of the squares of the regions from this level on, whose next finer region is given
abbrev pub square_edges_from : Region → List Region → Spot → Spot → ℕ
square_edges_from finer [] p q = 0
square_edges_from finer (active ∷ coarser) p q =
    ring_edges finer active p q + square_edges_from active coarser (coarser_spot p) (coarser_spot q)

-- of the stitches of the regions from this level on: short edges clockwise round a region, and long edges the other way
-- round the hole that it leaves in the next coarser one
abbrev pub stitch_edges_from : Region → List Region → Spot → Spot → ℕ
stitch_edges_from active [] p q = 0
stitch_edges_from active (next ∷ coarser) p q =
    (border_edges active p q + border_edges (hole active) (coarser_spot q) (coarser_spot p))
    + stitch_edges_from next coarser (coarser_spot p) (coarser_spot q)

abbrev pub all_stitch_edges : List Region → Spot → Spot → ℕ
all_stitch_edges [] p q = 0
all_stitch_edges (active ∷ coarser) p q = stitch_edges_from active coarser p q

-- of the mesh of these active regions
unfoldable pub edges_between : List Region → Spot → Spot → ℕ
edges_between actives p q = square_edges_from empty_region actives p q + all_stitch_edges actives p q
