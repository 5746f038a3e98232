-- The lists of the rings are the mesh without its stitches.
use Rattle.std.proofs.Common.{◌≡◌, ℕ, ◌<◌, ◌≤◌, ◌^◌, max, List, ◌++◌, length, ap, sym, subst, ◌∙◌, arith}
use Rattle.clip_regions.specs.declared.region.Region.{Region}
use Rattle.terrain_model.specs.Terrain.{Terrain}
use Rattle.plan_model.specs.Window.{margin, blend_width}
use Rattle.mesh_model.specs.declared.shapes.Vertex.{Vertex}
use Rattle.mesh_model.specs.declared.shapes.Part.{Part}
use Rattle.mesh_model.specs.Vertices.{mesh_vertices}
use Rattle.mesh_model.specs.Mesh.{MeshLists, mesh_of_parts}
use Rattle.mesh_model.specs.Rings.{unstitched}
use Rattle.mesh_model.specs.Conditions.{IsMesh, NameVertices}
use Rattle.mesh_model.specs.Laws.{PartsCover, PartsAreBounded}
use Rattle.active_region.specs.Active.{AreActive}
use Rattle.mesh_laws.specs.Rings.{no_ring, ring_parts_from}
use Rattle.mesh_laws.specs.Laws.{RingParts, UnstitchedNames, FewVertices, FewRingTriangles}
use Rattle.ring_mesh.specs.Listed.{vertices_left}
use Rattle.ring_mesh.specs.Added.{AreFaces, triangles_of}
use Rattle.ring_mesh.proofs.RingRows.{all_listed}
use Rattle.ring_mesh.proofs.UnderWay.{done_triangles, done_parts}

some_margin : (k : ℕ) → 1 ≤ margin k
unfolding margin
some_margin k = at_least (blend_width k)
  where
    at_least : (n : ℕ) → 1 ≤ max 2 n
    at_least n = grind arith

-- the mesh without its stitches, by places in closed form
pub by_rings : (terrain : Terrain) (k : ℕ) (actives : List Region) → AreActive actives → RingParts →
    unstitched terrain k actives ≡ mesh_of_parts (mesh_vertices terrain k actives) (ring_parts_from 0 no_ring actives)
unfolding unstitched
by_rings terrain k actives active law =
    ap (mesh_of_parts (mesh_vertices terrain k actives)) (law terrain k (margin active.k) actives (some_margin active.k) active.drawn.even active.drawn.nested)

pub few_triangles : (terrain : Terrain) (k : ℕ) (actives : List Region) → AreActive actives → RingParts → FewRingTriangles → length (triangles_of (ring_parts_from 0 no_ring actives)) < 2 ^ 31
unfolding triangles_of mesh_of_parts
few_triangles terrain k actives active law few =
    subst (λ (lists : MeshLists). length lists.triangles < 2 ^ 31) (by_rings terrain k actives active law) (few terrain k actives active)

-- three lists that are its own
pub whole : (terrain : Terrain) (k : ℕ) (actives : List Region) (vertices vs : List Vertex) (triangles : List (List ℕ)) (parts : List Part) → AreActive actives → RingParts →
    vertices ≡ mesh_vertices terrain k actives → vs ≡ vertices →
    triangles ≡ (mesh_of_parts vs (ring_parts_from 0 no_ring actives)).triangles → parts ≡ (mesh_of_parts vs (ring_parts_from 0 no_ring actives)).parts →
    record { vertices = vertices; triangles = triangles; parts = parts } ≡ unstitched terrain k actives
unfolding mesh_of_parts
whole terrain k actives vertices vs triangles parts active law ev es et ep =
    let ps = ring_parts_from 0 no_ring actives in
    let e = es ∙ ev in
    let t = et ∙ ap (λ (xs : List Vertex). (mesh_of_parts xs ps).triangles) e in
    let p = ep ∙ ap (λ (xs : List Vertex). (mesh_of_parts xs ps).parts) e in
    (λ x. record { vertices = ev x; triangles = t x; parts = p x }) ∙ sym (by_rings terrain k actives active law)

-- the vertices and the faces of all levels
pub all_levels : (terrain : Terrain) (k : ℕ) (actives : List Region) (n : ℕ) (vertices vs : List Vertex) (triangles : List (List ℕ)) (parts : List Part) → length actives ≤ n → AreActive actives → RingParts →
    vertices ++ vertices_left terrain k actives n ≡ vertices_left terrain k actives 0 → vs ≡ vertices → AreFaces vs actives 0 n triangles parts →
    record { vertices = vertices; triangles = triangles; parts = parts } ≡ unstitched terrain k actives
all_levels terrain k actives n vertices vs triangles parts high active law ev es faces =
    whole terrain k actives vertices vs triangles parts active law (all_listed terrain k actives n vertices high ev) es (done_triangles vs actives n triangles parts high faces) (done_parts vs actives n triangles parts high faces)

-- which are the lists of a mesh
pub is_mesh : (terrain : Terrain) (k : ℕ) (actives : List Region) (lists : MeshLists) → lists ≡ unstitched terrain k actives → AreActive actives → RingParts →
    UnstitchedNames → FewVertices → FewRingTriangles → PartsCover → PartsAreBounded → IsMesh lists
unfolding mesh_of_parts
is_mesh terrain k actives lists same active law names vertices triangles cover bounds =
    let ps = ring_parts_from 0 no_ring actives in
    let e = by_rings terrain k actives active law in
    let named : NameVertices (length (mesh_vertices terrain k actives)) (mesh_of_parts (mesh_vertices terrain k actives) ps).triangles =
    subst (λ (q : MeshLists). NameVertices (length q.vertices) q.triangles) e (names terrain k actives active) in
    let made : IsMesh (mesh_of_parts (mesh_vertices terrain k actives) ps) = record {
      few_vertices = vertices terrain k actives active;
      few_triangles = subst (λ (q : MeshLists). length q.triangles < 2 ^ 31) e (triangles terrain k actives active);
      places = named;
      cover = cover (mesh_vertices terrain k actives) ps;
      bounds = bounds (mesh_vertices terrain k actives) ps named;
    } in
    subst IsMesh (sym (same ∙ e)) made
