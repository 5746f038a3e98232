-- Laws over the definitions alone.
use Rattle.std.specs.Prelude.{◌≡◌, ℕ, All, AllPairs, ◌*◌, ◌+◌, ◌-◌, ◌<◌, ◌≤◌, false, pos, ◌+ℤ◌, List, [], ◌∷◌, length, slice_index_or}
use Rattle.clip_regions.specs.declared.region.Region.{Region}
use Rattle.clip_regions.specs.Regions.{is_empty, empty_region, columns, rows}
use Rattle.plan_model.specs.Actives.{actives}
use Rattle.plan_model.specs.Laws.{AllEvenOrEmpty, AreNested}
use Rattle.terrain_model.specs.Terrain.{Terrain}
use Rattle.mesh_model.specs.declared.shapes.PartKind.TheVariants.{Whole}
use Rattle.mesh_model.specs.declared.shapes.Vertex.{Vertex}
use Rattle.mesh_model.specs.declared.shapes.Part.{Part}
use Rattle.mesh_model.specs.Vertices.{place_of, mesh_vertices}
use Rattle.mesh_model.specs.Conditions.{NameVertices, IsInside, CoverInOrder, BoundsHold}
use Rattle.mesh_model.specs.Parts.{PartTriangles}
use Rattle.mesh_model.specs.Mesh.{mesh, mesh_of_parts, vertices_of, bounds_of}
use Rattle.mesh_model.specs.OneLevel.{one_level_vertices, one_level_triangles}
use Rattle.mesh_model.specs.Nested.{StandApart, vertex_count, ring_count, all_stitch_count}

-- the vertices of one active region are its cells row by row, each at 32 times its height
abbrev pub OneLevelVertices : Type 0
OneLevelVertices =
    (terrain : Terrain) (k : ℕ) (r : Region) → k ≤ 8 →
    (mesh terrain k (r ∷ [])).vertices ≡ one_level_vertices terrain r

-- the place of the vertex in column u and row v of one active region
abbrev pub OneLevelPlaces : Type 0
OneLevelPlaces =
    (terrain : Terrain) (r : Region) (u v : ℕ) → u < columns r → v < rows r →
    place_of (one_level_vertices terrain r) (r.x0 +ℤ pos u) (r.y0 +ℤ pos v) ≡ v * columns r + u

-- the triangles of one active region are those of its squares row by row
abbrev pub OneLevelTriangles : Type 0
OneLevelTriangles =
    (terrain : Terrain) (k : ℕ) (r : Region) → k ≤ 8 → is_empty r ≡ false →
    (mesh terrain k (r ∷ [])).triangles ≡ one_level_triangles r

-- one active region has one part, with all its triangles
abbrev pub OneLevelParts : Type 0
OneLevelParts =
    (terrain : Terrain) (k : ℕ) (r : Region) → k ≤ 8 → is_empty r ≡ false →
    (mesh terrain k (r ∷ [])).parts
    ≡ record {
      level = 0;
      kind = Whole;
      first = 0;
      count = length (one_level_triangles r);
      bounds = bounds_of (vertices_of (one_level_vertices terrain r) (one_level_triangles r));
    }
    ∷ []

-- one active region has a vertex for each cell
abbrev pub OneLevelVertexCount : Type 0
OneLevelVertexCount =
    (terrain : Terrain) (r : Region) → length (one_level_vertices terrain r) ≡ columns r * rows r

-- one active region has two triangles for each square
abbrev pub OneLevelTriangleCount : Type 0
OneLevelTriangleCount =
    (r : Region) → length (one_level_triangles r) ≡ 2 * ((columns r - 1) * (rows r - 1))

-- the triangles of one active region name its vertices
abbrev pub OneLevelNames : Type 0
OneLevelNames = (r : Region) → NameVertices (columns r * rows r) (one_level_triangles r)

-- a box that holds all vertices of a mesh holds those of the triangles of a part
abbrev pub BoxHolds : Type 0
BoxHolds =
    (vertices : List Vertex) (triangles : List (List ℕ)) (part : Part) →
    All (IsInside part.bounds) vertices → NameVertices (length vertices) triangles →
    BoundsHold vertices triangles (part ∷ [])

-- the parts of a mesh cover its triangles in order, without gaps
abbrev pub PartsCover : Type 0
PartsCover =
    (vertices : List Vertex) (parts : List PartTriangles) →
    CoverInOrder 0 (length (mesh_of_parts vertices parts).triangles) (mesh_of_parts vertices parts).parts

-- the bounds of each part of a mesh hold the vertices of its triangles, where these name vertices
abbrev pub PartsAreBounded : Type 0
PartsAreBounded =
    (vertices : List Vertex) (parts : List PartTriangles) →
    NameVertices (length vertices) (mesh_of_parts vertices parts).triangles →
    BoundsHold vertices (mesh_of_parts vertices parts).triangles (mesh_of_parts vertices parts).parts

-- the triangles of a mesh of nested regions name its vertices
abbrev pub NestedNames : Type 0
NestedNames =
    (terrain : Terrain) (k e : ℕ) (actives : List Region) → AllEvenOrEmpty actives → AreNested e actives →
    NameVertices (length (mesh terrain k actives).vertices) (mesh terrain k actives).triangles

-- no two vertices of a mesh of nested regions stand at one position
abbrev pub VerticesApart : Type 0
VerticesApart =
    (terrain : Terrain) (k e : ℕ) (actives : List Region) → AreNested e actives →
    AllPairs StandApart (mesh_vertices terrain k actives)

-- where no two vertices of a list stand at one position, the place of each is where it stands in the list
abbrev pub OwnPlaces : Type 0
OwnPlaces =
    (vertices : List Vertex) → AllPairs StandApart vertices → (place : ℕ) (none : Vertex) → place < length vertices →
    place_of vertices (slice_index_or vertices place none).x (slice_index_or vertices place none).z ≡ place

-- a mesh of nested regions has a vertex for each cell of a region outside its hole
abbrev pub NestedVertexCount : Type 0
NestedVertexCount =
    (terrain : Terrain) (k e : ℕ) (actives : List Region) → AreNested e actives →
    length (mesh terrain k actives).vertices ≡ vertex_count empty_region actives

-- a mesh of nested regions has two triangles for each square of a region outside its hole, and the stitches
abbrev pub NestedTriangleCount : Type 0
NestedTriangleCount =
    (terrain : Terrain) (k e : ℕ) (actives : List Region) → AllEvenOrEmpty actives → AreNested e actives →
    length (mesh terrain k actives).triangles ≡ 2 * ring_count empty_region actives + all_stitch_count actives

-- the triangles of the mesh of a plan's active regions name its vertices
abbrev pub DrawnNames : Type 0
DrawnNames =
    (terrain : Terrain) (k finest : ℕ) (filled : List Region) → AllEvenOrEmpty filled →
    NameVertices (length (mesh terrain k (actives k finest filled)).vertices)
    (mesh terrain k (actives k finest filled)).triangles

-- no two vertices of the mesh of a plan's active regions stand at one position
abbrev pub DrawnApart : Type 0
DrawnApart =
    (terrain : Terrain) (k finest : ℕ) (filled : List Region) →
    AllPairs StandApart (mesh_vertices terrain k (actives k finest filled))
