-- Boxes round vertices, one vertex after another.
use Rattle.std.specs.Prelude.{◌≡◌, ℕ, List, [], ◌∷◌, slice_index}
use Rattle.std.specs.Int.{int_min, int_max}
use Rattle.mesh_model.specs.declared.shapes.Vertex.{Vertex}
use Rattle.mesh_model.specs.declared.shapes.Bounds.{Bounds}
use Rattle.mesh_model.specs.Vertices.{vertex_of_place}

-- the box of one vertex
abbrev pub point_box : Vertex → Bounds
point_box v = record { x0 = v.x; x1 = v.x; z0 = v.z; z1 = v.z; low = v.height; high = v.height }

-- the least box that holds a box and a vertex
abbrev pub wider : Bounds → Vertex → Bounds
wider box v = record {
  x0 = int_min box.x0 v.x;
  x1 = int_max box.x1 v.x;
  z0 = int_min box.z0 v.z;
  z1 = int_max box.z1 v.z;
  low = int_min box.low v.height;
  high = int_max box.high v.height;
}

-- the least box that holds a box and some vertices
abbrev pub widest : Bounds → List Vertex → Bounds
widest box [] = box
widest box (v ∷ vertices) = widest (wider box v) vertices

-- the box holds the vertex with this place
abbrev pub Holds : Bounds → List Vertex → ℕ → Type 0
Holds box vertices place = wider box (vertex_of_place vertices place) ≡ box

-- the box holds the vertices of a triangle
pub record HoldsCorners (box : Bounds) (vertices : List Vertex) (triangle : List ℕ) : Type 0 where
  pub first : Holds box vertices (slice_index triangle 0)
  pub second : Holds box vertices (slice_index triangle 1)
  pub third : Holds box vertices (slice_index triangle 2)
