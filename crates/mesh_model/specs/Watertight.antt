-- What it means that the mesh of some active regions has no gap: heights agree where levels meet, stitches are flat,
-- triangles share their edges, and squares cover each place once.
use Rattle.std.specs.Prelude.{◌≡◌, ℕ, ◌+◌, ◌-◌, ◌^◌, ◌<◌, Bool, not, if◌then◌else◌, ◌&&◌, ◌||◌, ◌==◌, IsTrue, ℤ, pos, ◌+ℤ◌, ◌*ℤ◌, int_le, int_lt, List, [], ◌∷◌, length, filter, count_by, flat_map, All, slice_index}
use Rattle.std.specs.Ordering.{int_eq}
use Rattle.clip_regions.specs.declared.region.Region.{Region}
use Rattle.clip_regions.specs.Regions.{contains, empty_region, cells}
use Rattle.terrain_model.specs.Terrain.{Terrain}
use Rattle.mesh_model.specs.declared.shapes.Vertex.{Vertex}
use Rattle.mesh_model.specs.Height.{border_distance, active_at, vertex_height}
use Rattle.mesh_model.specs.Vertices.{hole, mesh_vertices, vertex_of_place}
use Rattle.mesh_model.specs.Parts.{squares_in, all_stitch_parts}
use Rattle.mesh_model.specs.Mesh.{mesh}

-- the cell lies on the border of the region
unfoldable pub is_on_border : Region → ℤ → ℤ → Bool
is_on_border r i j = contains r i j && int_eq (border_distance r i j) (pos 0)

-- where a cell of a level stands on the border of the finer active region, both levels give one height
abbrev pub HeightsAgree : Terrain → ℕ → List Region → Type 0
HeightsAgree terrain k actives =
    (level : ℕ) (i j : ℤ) → level + 1 < length actives →
    IsTrue (is_on_border (active_at actives level) (pos 2 *ℤ i) (pos 2 *ℤ j)) →
    IsTrue (contains (active_at actives (level + 1)) i j) →
    vertex_height terrain k actives level (pos 2 *ℤ i) (pos 2 *ℤ j) ≡ vertex_height terrain k actives (level + 1) i j

-- m stands in the middle between p and q, in position and in height
unfoldable pub is_middle : Vertex → Vertex → Vertex → Bool
is_middle p m q =
    (int_eq (pos 2 *ℤ m.x) (p.x +ℤ q.x) && int_eq (pos 2 *ℤ m.z) (p.z +ℤ q.z))
    && int_eq (pos 2 *ℤ m.height) (p.height +ℤ q.height)

-- the second vertex of each stitch stands in the middle between the first and the third
abbrev pub StitchesAreFlat : Terrain → ℕ → List Region → Type 0
StitchesAreFlat terrain k actives =
    let vertices = mesh_vertices terrain k actives in
    let at = vertex_of_place vertices in
    All
    (λ stitch. IsTrue (is_middle (at (slice_index stitch 0)) (at (slice_index stitch 1)) (at (slice_index stitch 2))))
    (flat_map (λ part. part.triangles) (all_stitch_parts vertices actives))

-- does the triangle go from a to b along one of its edges?
unfoldable pub has_edge : ℕ → ℕ → List ℕ → Bool
has_edge a b triangle =
    let p = slice_index triangle 0 in
    let q = slice_index triangle 1 in
    let r = slice_index triangle 2 in
    ((p == a && q == b) || (q == a && r == b)) || (r == a && p == b)

-- how many triangles go from a to b
unfoldable pub edge_count : List (List ℕ) → ℕ → ℕ → ℕ
edge_count triangles a b = count_by (has_edge a b) triangles

-- a region of a level whose cells are this far apart, by positions
unfoldable pub scaled : ℤ → Region → Region
scaled spacing r =
    record { x0 = r.x0 *ℤ spacing; y0 = r.y0 *ℤ spacing; x1 = r.x1 *ℤ spacing; y1 = r.y1 *ℤ spacing }

-- the last of these regions, by positions: what a mesh covers
unfoldable pub covered : List Region → Region
covered actives =
    let coarsest = length actives - 1 in
    scaled (pos (2 ^ coarsest)) (active_at actives coarsest)

-- both vertices stand on one and the same side of the region; an empty region has no side
unfoldable pub is_on_side : Region → Vertex → Vertex → Bool
is_on_side r p q =
    let both = λ (a b side : ℤ). int_eq a side && int_eq b side in
    (contains r p.x p.z && contains r q.x q.z)
    && ((both p.x q.x r.x0 || both p.x q.x r.x1) || (both p.z q.z r.y0 || both p.z q.z r.y1))

-- so many triangles go along an edge one way and so many the other way: none at all, or, where the edge is on the
-- border, one in all, else one each way
unfoldable pub is_closed_by : ℕ → ℕ → Bool → Bool
is_closed_by there back border =
    there + back == 0 || (if border then there + back == 1 else there == 1 && back == 1)

-- the edge between the vertices at two places is closed, where this region's sides are the border
unfoldable pub is_closed : Region → List Vertex → List (List ℕ) → ℕ → ℕ → Bool
is_closed border vertices triangles a b =
    is_closed_by (edge_count triangles a b) (edge_count triangles b a)
    (is_on_side border (vertex_of_place vertices a) (vertex_of_place vertices b))

-- an edge on the border of the coarsest active region is in one triangle, and any other edge in two, once in each
-- direction
abbrev pub EdgesClose : Terrain → ℕ → List Region → Type 0
EdgesClose terrain k actives =
    let lists = mesh terrain k actives in
    (a b : ℕ) → IsTrue (is_closed (covered actives) lists.vertices lists.triangles a b)

-- the north-west corners of the squares of an active region outside the hole
unfoldable pub ring_squares : Region → Region → List (ℤ × ℤ)
ring_squares finer active =
    let gap = hole finer in
    filter (λ square. not (contains (squares_in gap) square.0 square.1))
    (cells (squares_in active))

-- the unit square at column x and row z lies in this square of a level
unfoldable pub lies_in : ℕ → ℤ → ℤ → ℤ × ℤ → Bool
lies_in level x z square =
    let spacing = pos (2 ^ level) in
    let between = λ (i a : ℤ). int_le (i *ℤ spacing) a && int_lt a ((i +ℤ pos 1) *ℤ spacing) in
    between square.0 x && between square.1 z

-- in how many ring squares of the regions from this level on, whose next finer region is given, the unit square lies
abbrev pub cover_count : ℕ → Region → List Region → ℤ → ℤ → ℕ
cover_count level finer [] x z = 0
cover_count level finer (active ∷ coarser) x z =
    count_by (lies_in level x z) (ring_squares finer active) + cover_count (level + 1) active coarser x z

-- each unit square of the coarsest active region lies in one ring square of one level
abbrev pub SquaresCover : List Region → Type 0
SquaresCover actives =
    let r = covered actives in
    (x z : ℤ) → IsTrue (int_le r.x0 x && int_lt x r.x1) → IsTrue (int_le r.y0 z && int_lt z r.y1) →
    cover_count 0 empty_region actives x z ≡ 1

-- the mesh of these active regions is watertight
pub record IsWatertight (terrain : Terrain) (k : ℕ) (actives : List Region) : Type 0 where
  pub heights : HeightsAgree terrain k actives
  pub stitches : StitchesAreFlat terrain k actives
  pub edges : EdgesClose terrain k actives
  pub squares : SquaresCover actives
