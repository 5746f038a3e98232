-- The mesh is what it is without its stitches, and then the stitches.
use Rattle.std.proofs.Common.{◌≡◌, ℕ, ◌+◌, ◌^◌, ◌<◌, ◌≤◌, List, [], ◌++◌, length, refl, ap, sym, subst, ◌∙◌, length-append, arith}
use Rattle.clip_regions.specs.declared.region.Region.{Region}
use Rattle.clip_regions.specs.Regions.{empty_region}
use Rattle.terrain_model.specs.Terrain.{Terrain}
use Rattle.plan_model.specs.Window.{margin}
use Rattle.mesh_model.specs.declared.shapes.Vertex.{Vertex}
use Rattle.mesh_model.specs.declared.shapes.Part.{Part}
use Rattle.mesh_model.specs.Vertices.{mesh_vertices}
use Rattle.mesh_model.specs.Parts.{PartTriangles, square_parts_from, all_stitch_parts, parts_of_regions}
use Rattle.mesh_model.specs.Mesh.{MeshLists, mesh, mesh_of_parts, parts_from}
use Rattle.mesh_model.specs.Rings.{unstitched}
use Rattle.mesh_model.specs.Conditions.{IsMesh}
use Rattle.mesh_model.specs.Laws.{NestedNames, PartsCover, PartsAreBounded}
use Rattle.active_region.specs.Active.{AreActive}
use Rattle.mesh_laws.specs.Laws.{RingStitches, FewVertices, FewTriangles}
use Rattle.mesh_laws.specs.Stitches.{all_ring_stitches}
use Rattle.ring_mesh.specs.Added.{Adds, triangles_of}
use Rattle.ring_mesh.specs.Laws.{AddedRest}

pub wide_margin : (k : ℕ) → 1 ≤ margin k
unfolding margin
wide_margin k = omega arith

-- the stitches are what is left to add
pub stitches_left : (terrain : Terrain) (k : ℕ) (actives : List Region) → AddedRest → RingStitches → AreActive actives →
    Adds (mesh_vertices terrain k actives) (all_ring_stitches actives) (unstitched terrain k actives).triangles (unstitched terrain k actives).parts (mesh terrain k actives).triangles (mesh terrain k actives).parts
unfolding mesh unstitched mesh_of_parts parts_of_regions triangles_of
stitches_left terrain k actives rest same drawn =
    let v = mesh_vertices terrain k actives in
    let sq = square_parts_from v 0 empty_region actives in
    let st = all_stitch_parts v actives in
    let u = mesh_of_parts v sq in
    let m = mesh_of_parts v (sq ++ st) in
    let all : Adds v (sq ++ st) [] [] m.triangles m.parts = record { triangles_are = refl; parts_are = refl } in
    let first : Adds v sq [] [] u.triangles u.parts = record { triangles_are = refl; parts_are = refl } in
    subst (λ (ps : List PartTriangles). Adds v ps u.triangles u.parts m.triangles m.parts) (same terrain k (margin drawn.k) actives (wide_margin drawn.k) drawn.drawn.nested)
    (rest v sq st [] u.triangles m.triangles [] u.parts m.parts all first)

pub few_left : (terrain : Terrain) (k : ℕ) (actives : List Region) (t : List (List ℕ)) → AddedRest → RingStitches → FewTriangles → AreActive actives → t ≡ (unstitched terrain k actives).triangles →
    length t + length (triangles_of (all_ring_stitches actives)) < 2 ^ 31
few_left terrain k actives t rest same few drawn e =
    let left = stitches_left terrain k actives rest same drawn in
    let whole = ap length left.triangles_are in
    let parts = length-append (unstitched terrain k actives).triangles (triangles_of (all_ring_stitches actives)) in
    let own = ap length e in
    let bound = few terrain k actives drawn in
    omega (arith, whole, parts, own, bound)

-- the code has added the stitches to the lists of a mesh, which it took apart
pub record IsMade (actives : List Region) (lists : MeshLists) (v seen : List Vertex) (t t1 : List (List ℕ)) (p p1 : List Part) : Type 0 where
  pub vertices : v ≡ lists.vertices
  pub same : seen ≡ v
  pub triangles : t ≡ lists.triangles
  pub parts : p ≡ lists.parts
  pub added : Adds seen (all_ring_stitches actives) t p t1 p1

-- this makes the mesh
pub closed_is : (terrain : Terrain) (k : ℕ) (actives : List Region) (lists : MeshLists) (v seen : List Vertex) (t t1 : List (List ℕ)) (p p1 : List Part) → AddedRest → RingStitches → AreActive actives →
    IsMade actives lists v seen t t1 p p1 → lists ≡ unstitched terrain k actives → record { vertices = v; triangles = t1; parts = p1 } ≡ mesh terrain k actives
unfolding mesh unstitched mesh_of_parts
closed_is terrain k actives lists v seen t t1 p p1 rest same drawn made e =
    let all = all_ring_stitches actives in
    let vs = mesh_vertices terrain k actives in
    let u = mesh_of_parts vs (square_parts_from vs 0 empty_region actives) in
    let ev : v ≡ vs = made.vertices ∙ ap (λ (l : MeshLists). l.vertices) e in
    let et : t ≡ u.triangles = made.triangles ∙ ap (λ (l : MeshLists). l.triangles) e in
    let ep : p ≡ u.parts = made.parts ∙ ap (λ (l : MeshLists). l.parts) e in
    let left = stitches_left terrain k actives rest same drawn in
    let triangles : t1 ≡ (mesh terrain k actives).triangles = made.added.triangles_are ∙ ap (λ x. x ++ triangles_of all) et ∙ sym left.triangles_are in
    let parts : p1 ≡ (mesh terrain k actives).parts = made.added.parts_are ∙ (λ i. ep i ++ parts_from ((made.same ∙ ev) i) (length (et i)) all) ∙ sym left.parts_are in
    λ i. record { vertices = ev i; triangles = triangles i; parts = parts i }

pub whole_is : (terrain : Terrain) (k : ℕ) (actives : List Region) → FewVertices → FewTriangles → NestedNames → PartsCover → PartsAreBounded → AreActive actives → IsMesh (mesh terrain k actives)
unfolding mesh mesh_of_parts mesh_vertices
whole_is terrain k actives few_vertices few_triangles names cover bounded drawn =
    let v = mesh_vertices terrain k actives in
    let named = names terrain k (margin drawn.k) actives drawn.drawn.even drawn.drawn.nested in
    record {
      few_vertices = few_vertices terrain k actives drawn;
      few_triangles = few_triangles terrain k actives drawn;
      places = named;
      cover = cover v (parts_of_regions v actives);
      bounds = bounded v (parts_of_regions v actives) named;
    }
