-- What a part is that a view drops: all of it lies outside one half-space.
use Rattle.std.specs.Prelude.{◌≡◌, ℕ, ◌+◌, ◌<◌, Bool, true, false, not, ℤ, pos, ◌+ℤ◌, ◌*ℤ◌, List, [], ◌∷◌, All, Contains, map, int_lt}
use Rattle.std.specs.List.{list_any}
use Rattle.mesh_model.specs.declared.shapes.Vertex.{Vertex}
use Rattle.mesh_model.specs.declared.shapes.Part.{Part}
use Rattle.mesh_model.specs.declared.shapes.HalfSpace.{HalfSpace}
use Rattle.mesh_model.specs.Mesh.{MeshLists, vertices_of}
use Rattle.mesh_model.specs.Conditions.{IsMesh, triangles_of_part}
use Rattle.mesh_model.specs.Seen.{is_point_outside, is_kept, kept_parts, flagged_parts}

-- the vertices of the triangles of a part
abbrev pub part_vertices : MeshLists → Part → List Vertex
part_vertices lists part = vertices_of lists.vertices (triangles_of_part lists.triangles part)

-- the vertex lies outside the half-space
abbrev pub is_vertex_outside : HalfSpace → Vertex → Bool
is_vertex_outside space vertex = is_point_outside space vertex.x vertex.height vertex.z

-- a vertex and its weight
pub record Weighted : Type 0 where
  pub weight : ℕ
  pub vertex : Vertex

-- a point between vertices: column, height and row are these numbers divided by the weight
pub record Mixture : Type 0 where
  pub weight : ℕ
  pub x : ℤ
  pub height : ℤ
  pub z : ℤ

-- the weighted mean of some vertices: a point of a triangle is one of its three corners
abbrev pub mean : List Weighted → Mixture
mean [] = record { weight = 0; x = pos 0; height = pos 0; z = pos 0 }
mean (first ∷ others) =
    let rest = mean others in
    record {
      weight = first.weight + rest.weight;
      x = pos first.weight *ℤ first.vertex.x +ℤ rest.x;
      height = pos first.weight *ℤ first.vertex.height +ℤ rest.height;
      z = pos first.weight *ℤ first.vertex.z +ℤ rest.z;
    }

-- 32 times a x + b h + c z + d at such a point, times its weight: it is negative outside the half-space
unfoldable pub mixture_value : HalfSpace → Mixture → ℤ
mixture_value space point =
    pos 32 *ℤ (space.a *ℤ point.x) +ℤ space.b *ℤ point.height +ℤ pos 32 *ℤ (space.c *ℤ point.z)
    +ℤ pos 32 *ℤ (space.d *ℤ pos point.weight)

-- the point lies outside no half-space of the view
unfoldable pub is_in_view : List HalfSpace → Mixture → Bool
is_in_view view point = not (list_any (λ space. int_lt (mixture_value space point) (pos 0)) view)

-- all vertices of a part of a mesh that a view drops lie outside one and the same half-space of the view
abbrev pub DroppedOutside : Type 0
DroppedOutside =
    (view : List HalfSpace) (lists : MeshLists) (part : Part) → IsMesh lists → Contains lists.parts part →
    is_kept view part ≡ false →
    (space : HalfSpace)
    × Contains view space
    × All (λ vertex. is_vertex_outside space vertex ≡ true) (part_vertices lists part)

-- so no point of its triangles, which are weighted means of its vertices, lies in the view
abbrev pub DroppedUnseen : Type 0
DroppedUnseen =
    (view : List HalfSpace) (lists : MeshLists) (part : Part) → IsMesh lists → Contains lists.parts part →
    is_kept view part ≡ false →
    (corners : List Weighted) → All (λ corner. Contains (part_vertices lists part) corner.vertex) corners →
    0 < (mean corners).weight →
    is_in_view view (mean corners) ≡ false

-- flags that say of each part whether a view keeps it pick the parts that the view keeps
abbrev pub FlagsKeep : Type 0
FlagsKeep =
    (view : List HalfSpace) (parts : List Part) →
    flagged_parts (map (is_kept view) parts) parts ≡ kept_parts view parts
