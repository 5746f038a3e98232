-- How many vertices and triangles the mesh of a frame has at most.
use Rattle.std.proofs.Common.{◌≡◌, ℕ, ◌+◌, ◌-◌, ◌*◌, ◌^◌, ◌<◌, ◌≤◌, List, [], ◌∷◌, ◌++◌, length, ap, subst, inl, inr, arith, length-append}
use Rattle.std.specs.List.{All, flat_map}
use Rattle.std.proofs.lemmas.Bool.{cases_Bool}
use Rattle.std.proofs.lemmas.List.{get_or_default}
use Rattle.std.proofs.lemmas.List.Elements.{All-head, All-tail}
use Rattle.std.proofs.lemmas.List.Concat.{flat_map-append}
use Rattle.std.proofs.Math.Nat.{mul-le-mul}
use Rattle.clip_regions.specs.declared.region.Region.{Region}
use Rattle.clip_regions.specs.Regions.{is_empty, empty_region, columns, rows, area}
use Rattle.terrain_model.specs.Terrain.{Terrain}
use Rattle.mesh_model.specs.Height.{active_at}
use Rattle.mesh_model.specs.Vertices.{mesh_vertices}
use Rattle.mesh_model.specs.Parts.{PartTriangles, square_parts_from, all_stitch_parts, parts_of_regions}
use Rattle.mesh_model.specs.Mesh.{mesh, mesh_of_parts}
use Rattle.mesh_model.specs.Rings.{unstitched}
use Rattle.mesh_model.specs.Nested.{vertex_count, square_count, ring_count, border_count, stitch_count, all_stitch_count}
use Rattle.mesh_model.specs.Conditions.{NameVertices}
use Rattle.active_region.specs.Active.{AreActive}
use Rattle.mesh_laws.specs.Conditions.{IsSmall}
use Rattle.mesh_laws.proofs.Sizes.{small_of}
use Rattle.mesh_model.proofs.Whole.{all_left}

all_small : (actives : List Region) → AreActive actives → All IsSmall actives
unfolding active_at
all_small actives drawn level d low = subst IsSmall (get_or_default actives level empty_region d low) (small_of actives level low drawn)

few_area : (r : Region) → IsSmall r → area r ≤ 65025
unfolding area
few_area r small = let product : columns r * rows r ≤ 255 * 255 = mul-le-mul small.few_columns small.few_rows in omega arith

few_squares : (r : Region) → IsSmall r → square_count r ≤ 65025
unfolding square_count
few_squares r small =
    let wide = small.few_columns in
    let high = small.few_rows in
    let a : columns r - 1 ≤ 255 = omega (arith, wide) in
    let b : rows r - 1 ≤ 255 = omega (arith, high) in
    let product : (columns r - 1) * (rows r - 1) ≤ 255 * 255 = mul-le-mul a b in
    omega arith

few_border : (r : Region) → IsSmall r → border_count r ≤ 510
unfolding border_count
few_border r small =
    let wide = small.few_columns in
    let high = small.few_rows in
    elim (cases_Bool (is_empty r)) [
      | inl e ↦ rw e (omega arith)
      | inr e ↦ rw e (omega arith)
    ]

vertices_few : (finer : Region) (actives : List Region) → All IsSmall actives → vertex_count finer actives ≤ 65025 * length actives
vertices_few finer [] small = omega arith
vertices_few finer (active ∷ coarser) small =
    let here = few_area active (All-head IsSmall active coarser small) in
    let rest = vertices_few active coarser (All-tail IsSmall active coarser small) in
    omega (arith, here, rest)

squares_few : (finer : Region) (actives : List Region) → All IsSmall actives → ring_count finer actives ≤ 65025 * length actives
squares_few finer [] small = omega arith
squares_few finer (active ∷ coarser) small =
    let here = few_squares active (All-head IsSmall active coarser small) in
    let rest = squares_few active coarser (All-tail IsSmall active coarser small) in
    omega (arith, here, rest)

stitches_few : (active : Region) (coarser : List Region) → IsSmall active → All IsSmall coarser → stitch_count active coarser ≤ 510 * length coarser
stitches_few active [] own small = omega arith
stitches_few active (next ∷ coarser) own small =
    let here = few_border active own in
    let rest = stitches_few next coarser (All-head IsSmall next coarser small) (All-tail IsSmall next coarser small) in
    omega (arith, here, rest)

all_stitches_few : (actives : List Region) → All IsSmall actives → all_stitch_count actives ≤ 510 * length actives
all_stitches_few [] small = omega arith
all_stitches_few (active ∷ coarser) small =
    let rest = stitches_few active coarser (All-head IsSmall active coarser small) (All-tail IsSmall active coarser small) in
    omega (arith, rest)

pub few_vertices : (terrain : Terrain) (k : ℕ) (actives : List Region) → AreActive actives → length (mesh terrain k actives).vertices ≡ vertex_count empty_region actives →
    length (mesh_vertices terrain k actives) < 2 ^ 31
unfolding mesh mesh_of_parts
few_vertices terrain k actives drawn count =
    let few = vertices_few empty_region actives (all_small actives drawn) in
    let many = drawn.drawn.many.high in
    omega (arith, count, few, many)

pub few_triangles : (terrain : Terrain) (k : ℕ) (actives : List Region) → AreActive actives →
    length (mesh terrain k actives).triangles ≡ 2 * ring_count empty_region actives + all_stitch_count actives → length (mesh terrain k actives).triangles < 2 ^ 31
few_triangles terrain k actives drawn count =
    let small = all_small actives drawn in
    let squares = squares_few empty_region actives small in
    let stitches = all_stitches_few actives small in
    let many = drawn.drawn.many.high in
    omega (arith, count, squares, stitches, many)

-- the triangles of the squares, and then those of the stitches
triangles_are : (terrain : Terrain) (k : ℕ) (actives : List Region) →
    (mesh terrain k actives).triangles ≡ (unstitched terrain k actives).triangles ++ flat_map (λ part. part.triangles) (all_stitch_parts (mesh_vertices terrain k actives) actives)
unfolding mesh unstitched mesh_of_parts parts_of_regions
triangles_are terrain k actives =
    flat_map-append (λ (part : PartTriangles). part.triangles) (square_parts_from (mesh_vertices terrain k actives) 0 empty_region actives) (all_stitch_parts (mesh_vertices terrain k actives) actives)

pub few_ring_triangles : (terrain : Terrain) (k : ℕ) (actives : List Region) → length (mesh terrain k actives).triangles < 2 ^ 31 → length (unstitched terrain k actives).triangles < 2 ^ 31
few_ring_triangles terrain k actives few =
    let stitches = flat_map (λ part. part.triangles) (all_stitch_parts (mesh_vertices terrain k actives) actives) in
    let whole = ap length (triangles_are terrain k actives) in
    let parts = length-append (unstitched terrain k actives).triangles stitches in
    omega (arith, few, whole, parts)

pub ring_names : (terrain : Terrain) (k : ℕ) (actives : List Region) → NameVertices (length (mesh terrain k actives).vertices) (mesh terrain k actives).triangles →
    NameVertices (length (unstitched terrain k actives).vertices) (unstitched terrain k actives).triangles
unfolding mesh unstitched mesh_of_parts
ring_names terrain k actives named =
    let count = length (mesh_vertices terrain k actives) in
    all_left (λ triangle. All (λ place. place < count) triangle) (unstitched terrain k actives).triangles (flat_map (λ part. part.triangles) (all_stitch_parts (mesh_vertices terrain k actives) actives))
    (subst (λ (triangles : List (List ℕ)). All (λ triangle. All (λ place. place < count) triangle) triangles) (triangles_are terrain k actives) named)
