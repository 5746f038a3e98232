-- Laws over the definitions alone.
use Rattle.std.specs.Prelude.{◌≡◌, ℕ, ◌+◌, ◌^◌, ◌<◌, ◌≤◌, true, false, ◌&&◌, ℤ, pos, ◌+ℤ◌, ◌*ℤ◌, int_le, List, All, ◌∷◌, ◌++◌, map, flat_map, count_by, length, if◌then◌else◌}
use Rattle.std.specs.Int.{int_gap}
use Rattle.clip_regions.specs.declared.region.Region.{Region}
use Rattle.clip_regions.specs.Regions.{contains, empty_region, columns, rows, numbers_from}
use Rattle.plan_model.specs.Laws.{AllEvenOrEmpty, IsEvenOrEmpty, AreNested}
use Rattle.plan_model.specs.Window.{IsInReach}
use Rattle.plan_model.specs.Limits.{IsSize}
use Rattle.terrain_model.specs.Terrain.{Terrain, IsTerrain}
use Rattle.mesh_model.specs.declared.shapes.Vertex.{Vertex}
use Rattle.mesh_model.specs.Height.{active_at, lower_end, upper_end, vertex_height}
use Rattle.mesh_model.specs.Vertices.{hole, cells_outside, mesh_vertices}
use Rattle.mesh_model.specs.Parts.{squares_in, square_parts, square_parts_from, all_stitch_parts}
use Rattle.mesh_model.specs.Mesh.{mesh}
use Rattle.mesh_model.specs.Rings.{unstitched}
use Rattle.mesh_model.specs.Conditions.{NameVertices}
use Rattle.mesh_laws.specs.declared.ring.Ring.{Ring}
use Rattle.mesh_laws.specs.Rings.{no_ring, next_ring, ring_size, ring_row, run, ring_parts_from}
use Rattle.mesh_laws.specs.Stitches.{all_ring_stitches}
use Rattle.mesh_laws.specs.Squares.{part_squares, triangles_in}
use Rattle.active_region.specs.Active.{AreActive}
use Rattle.mesh_laws.specs.Conditions.{IsCell, IsNear, IsSmall, HasHole, IsRing, AreLinked, IsBefore, IsAtMost}

-- the square parts of nested regions, by places in closed form
abbrev pub RingParts : Type 0
RingParts =
    (terrain : Terrain) (k e : ℕ) (actives : List Region) → 1 ≤ e → AllEvenOrEmpty actives → AreNested e actives →
    square_parts_from (mesh_vertices terrain k actives) 0 empty_region actives ≡ ring_parts_from 0 no_ring actives

-- the stitch parts of nested regions, by places in closed form
abbrev pub RingStitches : Type 0
RingStitches =
    (terrain : Terrain) (k e : ℕ) (actives : List Region) → 1 ≤ e → AreNested e actives →
    all_stitch_parts (mesh_vertices terrain k actives) actives ≡ all_ring_stitches actives

-- the cells outside a hole are those of the rows
abbrev pub RingRows : Type 0
RingRows =
    (finer active : Region) →
    cells_outside finer active ≡ flat_map (ring_row (hole finer) active) (numbers_from active.y0 (rows active))

-- a row that doesn't meet the hole is whole
abbrev pub WholeRow : Type 0
WholeRow =
    (gap active : Region) (j : ℤ) → HasHole active gap → (int_le gap.y0 j && int_le j gap.y1) ≡ false →
    ring_row gap active j ≡ run active.x0 j (columns active)

-- a row that meets the hole is what lies west and east of it
abbrev pub CutRow : Type 0
CutRow =
    (gap active : Region) (j : ℤ) → HasHole active gap → (int_le gap.y0 j && int_le j gap.y1) ≡ true →
    ring_row gap active j
    ≡ run active.x0 j (int_gap active.x0 gap.x0) ++ run (gap.x1 +ℤ pos 1) j (int_gap gap.x1 active.x1)

-- a cell of a hole stands at a cell of the finer region
abbrev pub HoleCells : Type 0
HoleCells =
    (finer : Region) (i j : ℤ) → IsEvenOrEmpty finer → contains (hole finer) i j ≡ true →
    IsCell finer (pos 2 *ℤ i) (pos 2 *ℤ j)

-- a cell that lies in a region is contained in it
abbrev pub CellsAreContained : Type 0
CellsAreContained = (r : Region) (i j : ℤ) → IsCell r i j → contains r i j ≡ true

-- the hole of a small region is small
abbrev pub HolesAreSmall : Type 0
HolesAreSmall = (active gap : Region) → IsSmall active → HasHole active gap → IsSmall gap

-- nothing stands before the finest level
abbrev pub FirstRing : Type 0
FirstRing = (actives : List Region) → IsBefore actives 0 no_ring

-- each level's ring comes after that of the next finer level, and stands before the next coarser level
abbrev pub NextLinked : Type 0
NextLinked =
    (actives : List Region) (level : ℕ) (finer : Ring) → AreActive actives → level < length actives
    → IsBefore actives level finer →
    AreLinked finer (next_ring finer (active_at actives level))

abbrev pub NextRing : Type 0
NextRing =
    (actives : List Region) (level : ℕ) (finer : Ring) → AreActive actives → level < length actives
    → IsBefore actives level finer →
    IsBefore actives (level + 1) (next_ring finer (active_at actives level))

-- a ring lists at most 255 times 255 vertices
abbrev pub RingSize : Type 0
RingSize = (ring : Ring) → IsRing ring → ring_size ring ≤ 65025

-- the cells of an active region lie within 2^23 samples of the mosaic's corner
abbrev pub ActivesReach : Type 0
ActivesReach =
    (actives : List Region) (level : ℕ) → AreActive actives → level < length actives
    → IsInReach level (active_at actives level)

-- and so does the sample at each of its cells
abbrev pub CellsReach : Type 0
CellsReach =
    (actives : List Region) (level : ℕ) (i j : ℤ) → AreActive actives → level < length actives →
    contains (active_at actives level) i j ≡ true → IsNear level i × IsNear level j

-- the two coarser cells between which a cell lies are cells of the coarser active region
abbrev pub LowerEnds : Type 0
LowerEnds =
    (actives : List Region) (level : ℕ) (i j : ℤ) → AreActive actives → level + 1 < length actives →
    IsCell (active_at actives level) i j → contains (active_at actives (level + 1)) (lower_end i) (lower_end j) ≡ true

abbrev pub UpperEnds : Type 0
UpperEnds =
    (actives : List Region) (level : ℕ) (i j : ℤ) → AreActive actives → level + 1 < length actives →
    IsCell (active_at actives level) i j → contains (active_at actives (level + 1)) (upper_end i) (upper_end j) ≡ true

-- the triangles of the mesh without its stitches name its vertices
abbrev pub UnstitchedNames : Type 0
UnstitchedNames =
    (terrain : Terrain) (k : ℕ) (actives : List Region) → AreActive actives →
    NameVertices (length (unstitched terrain k actives).vertices) (unstitched terrain k actives).triangles

-- there are fewer than 2^31 vertices and triangles
abbrev pub FewVertices : Type 0
FewVertices =
    (terrain : Terrain) (k : ℕ) (actives : List Region) → AreActive actives
    → length (mesh_vertices terrain k actives) < 2 ^ 31

abbrev pub FewTriangles : Type 0
FewTriangles =
    (terrain : Terrain) (k : ℕ) (actives : List Region) → AreActive actives
    → length (mesh terrain k actives).triangles < 2 ^ 31

abbrev pub FewRingTriangles : Type 0
FewRingTriangles =
    (terrain : Terrain) (k : ℕ) (actives : List Region) → AreActive actives
    → length (unstitched terrain k actives).triangles < 2 ^ 31

-- no vertex lies farther from height 0 than 2^20 thirty-seconds of a metre
abbrev pub HeightsAreSmall : Type 0
HeightsAreSmall =
    (terrain : Terrain) (k : ℕ) (actives : List Region) (level : ℕ) (i j : ℤ) → IsTerrain terrain → IsSize k →
    contains (active_at actives level) i j ≡ true → IsAtMost (2 ^ 20) (vertex_height terrain k actives level i j)

-- the triangles of the parts of an active region are those of their squares
abbrev pub PartSquares : Type 0
PartSquares =
    (vertices : List Vertex) (level : ℕ) (finer active : Region) →
    map (λ part. part.triangles) (square_parts vertices level finer active)
    ≡ map (triangles_in vertices level) (part_squares finer active)

-- the squares of the hole and those of the parts are together the squares of the active region, each once
abbrev pub SquaresOnce : Type 0
SquaresOnce =
    (finer active : Region) (i j : ℤ) → HasHole active (hole finer) →
    count_by (λ squares. contains squares i j) (squares_in (hole finer) ∷ part_squares finer active)
    ≡ (if contains (squares_in active) i j then 1 else 0)

-- each part of the mesh of a frame's active regions has a triangle, so that its bounds are those of some vertices
abbrev pub FilledParts : Type 0
FilledParts =
    (terrain : Terrain) (k : ℕ) (actives : List Region) → AreActive actives
    → All (λ part. 1 ≤ part.count) (mesh terrain k actives).parts
