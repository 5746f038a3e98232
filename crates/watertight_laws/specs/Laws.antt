-- Laws over the definitions alone.
use Rattle.std.specs.Prelude.{◌≡◌, ◌≢◌, ℕ, ◌<◌, ◌≤◌, List, length, All}
use Rattle.clip_regions.specs.declared.region.Region.{Region}
use Rattle.plan_model.specs.Limits.{IsSize}
use Rattle.plan_model.specs.Laws.{AllEvenOrEmpty, AreNested}
use Rattle.active_region.specs.Active.{IsWideOrEmpty, AreDrawn, AreActive}
use Rattle.terrain_model.specs.Terrain.{Terrain}
use Rattle.mesh_model.specs.declared.shapes.Vertex.{Vertex}
use Rattle.mesh_model.specs.Vertices.{mesh_vertices, vertex_of_place}
use Rattle.mesh_model.specs.Mesh.{mesh}
use Rattle.plan_model.specs.Actives.{actives}
use Rattle.mesh_model.specs.Watertight.{edge_count, EdgesClose, IsWatertight}
use Rattle.watertight_laws.specs.Edges.{Spot, At, edges_between}

-- where the vertex at a place stands on the finest level
unfoldable pub spot_of : List Vertex → ℕ → Spot
spot_of vertices place = At (vertex_of_place vertices place).x (vertex_of_place vertices place).z

-- how many triangles go from one vertex of the mesh of nested regions to another, where each is empty or has sides of 2
-- or more
abbrev pub EdgesAreCounted : Type 0
EdgesAreCounted =
    (terrain : Terrain) (k e : ℕ) (actives : List Region) (a b : ℕ) →
    AllEvenOrEmpty actives → All IsWideOrEmpty actives → AreNested e actives →
    a < length (mesh_vertices terrain k actives) → b < length (mesh_vertices terrain k actives) → a ≢ b →
    edge_count (mesh terrain k actives).triangles a b
    ≡ edges_between actives (spot_of (mesh_vertices terrain k actives) a) (spot_of (mesh_vertices terrain k actives) b)

-- each edge of the mesh of nested regions is closed, where each is empty or has sides of 2 or more
abbrev pub NestedEdgesClose : Type 0
NestedEdgesClose =
    (terrain : Terrain) (k e : ℕ) (actives : List Region) → 1 ≤ e →
    AllEvenOrEmpty actives → All IsWideOrEmpty actives → AreNested e actives → EdgesClose terrain k actives

-- each edge of the mesh of a plan's active regions is closed
abbrev pub DrawnEdgesClose : Type 0
DrawnEdgesClose =
    (terrain : Terrain) (k finest : ℕ) (filled : List Region) → AllEvenOrEmpty filled →
    EdgesClose terrain k (actives k finest filled)

-- each edge of the mesh of a frame's active regions is closed
abbrev pub ActiveEdgesClose : Type 0
ActiveEdgesClose =
    (terrain : Terrain) (k : ℕ) (actives : List Region) → AreActive actives → EdgesClose terrain k actives

-- the mesh of a plan's active regions is watertight
abbrev pub PlansAreWatertight : Type 0
PlansAreWatertight =
    (terrain : Terrain) (k finest : ℕ) (filled : List Region) → IsSize k → AllEvenOrEmpty filled →
    IsWatertight terrain k (actives k finest filled)

-- the mesh of a frame's active regions is watertight
abbrev pub FramesAreWatertight : Type 0
FramesAreWatertight =
    (terrain : Terrain) (k : ℕ) (actives : List Region) → IsSize k → AreDrawn k actives → IsWatertight terrain k actives
