-- What is demanded of the lists of a mesh.
use Rattle.std.specs.Prelude.{◌≡◌, ℕ, ◌+◌, ◌^◌, ◌<◌, ◌≤ℤ◌, List, [], ◌∷◌, length, take, drop, All}
use Rattle.mesh_model.specs.declared.shapes.Vertex.{Vertex}
use Rattle.mesh_model.specs.declared.shapes.Bounds.{Bounds}
use Rattle.mesh_model.specs.declared.shapes.Part.{Part}
use Rattle.mesh_model.specs.Vertices.{vertex_of_place}
use Rattle.mesh_model.specs.Mesh.{MeshLists}

-- each triangle names places below this number of vertices
abbrev pub NameVertices : ℕ → List (List ℕ) → Type 0
NameVertices count triangles = All (λ triangle. All (λ place. place < count) triangle) triangles

-- the parts stand one after another, from the place of this first triangle to that of the last, without gaps
abbrev pub CoverInOrder : ℕ → ℕ → List Part → Type 0
CoverInOrder from to [] = from ≡ to
CoverInOrder from to (part ∷ parts) = (part.first ≡ from) × CoverInOrder (from + part.count) to parts

-- a vertex lies in the box
pub record IsInside (bounds : Bounds) (vertex : Vertex) : Type 0 where
  pub x_low : bounds.x0 ≤ℤ vertex.x
  pub x_high : vertex.x ≤ℤ bounds.x1
  pub z_low : bounds.z0 ≤ℤ vertex.z
  pub z_high : vertex.z ≤ℤ bounds.z1
  pub height_low : bounds.low ≤ℤ vertex.height
  pub height_high : vertex.height ≤ℤ bounds.high

-- the triangles of a part
abbrev pub triangles_of_part : List (List ℕ) → Part → List (List ℕ)
triangles_of_part triangles part = take part.count (drop part.first triangles)

-- the vertices of these triangles lie in the box
abbrev pub HoldsVertices : List Vertex → Bounds → List (List ℕ) → Type 0
HoldsVertices vertices bounds triangles =
    All (λ triangle. All (λ place. IsInside bounds (vertex_of_place vertices place)) triangle) triangles

-- each part's bounds hold the vertices of its triangles
abbrev pub BoundsHold : List Vertex → List (List ℕ) → List Part → Type 0
BoundsHold vertices triangles parts =
    All (λ part. HoldsVertices vertices part.bounds (triangles_of_part triangles part)) parts

-- the lists make a mesh: they are of lengths that the text's numbers hold, the triangles name vertices, and the parts
-- cover the triangles within their bounds
pub record IsMesh (lists : MeshLists) : Type 0 where
  pub few_vertices : length lists.vertices < 2 ^ 31
  pub few_triangles : length lists.triangles < 2 ^ 31
  pub places : NameVertices (length lists.vertices) lists.triangles
  pub cover : CoverInOrder 0 (length lists.triangles) lists.parts
  pub bounds : BoundsHold lists.vertices lists.triangles lists.parts
