-- The mesh of nested active regions: when two vertices stand apart, and how many vertices, squares and stitches there
-- are, level by level from the finest.
use Rattle.std.specs.Prelude.{◌≡◌, ℕ, ◌+◌, ◌-◌, ◌*◌, List, [], ◌∷◌, if◌then◌else◌}
use Rattle.clip_regions.specs.declared.region.Region.{Region}
use Rattle.clip_regions.specs.Regions.{is_empty, columns, rows, area}
use Rattle.mesh_model.specs.declared.shapes.Vertex.{Vertex}
use Rattle.mesh_model.specs.Vertices.{hole}

-- the two vertices do not stand at one position
abbrev pub StandApart : Vertex → Vertex → Type 0
StandApart v w = v.x ≡ w.x → v.z ≡ w.z → ⊥

-- how many cells the regions have outside their holes, where this is the next finer region
abbrev pub vertex_count : Region → List Region → ℕ
vertex_count finer [] = 0
vertex_count finer (active ∷ coarser) = (area active - area (hole finer)) + vertex_count active coarser

-- how many squares lie between the cells of a region
unfoldable pub square_count : Region → ℕ
square_count r = (columns r - 1) * (rows r - 1)

-- how many squares the regions have outside their holes, where this is the next finer region
abbrev pub ring_count : Region → List Region → ℕ
ring_count finer [] = 0
ring_count finer (active ∷ coarser) = (square_count active - square_count (hole finer)) + ring_count active coarser

-- how many stitches a region has along its border, one for each two steps of the way round it
unfoldable pub border_count : Region → ℕ
border_count active = if is_empty active then 0 else (columns active - 1) + (rows active - 1)

-- how many stitches the regions have from this one on: the coarsest has none
abbrev pub stitch_count : Region → List Region → ℕ
stitch_count active [] = 0
stitch_count active (next ∷ coarser) = border_count active + stitch_count next coarser

abbrev pub all_stitch_count : List Region → ℕ
all_stitch_count [] = 0
all_stitch_count (active ∷ coarser) = stitch_count active coarser
