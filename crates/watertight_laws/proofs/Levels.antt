-- How many triangles of a mesh go from one vertex to another, level by level.
use Rattle.std.proofs.Common.{◌≡◌, ◌≢◌, ℕ, ◌+◌, ◌<◌, ◌≤◌, Bool, true, false, cond, ◌&&◌, ◌||◌, ◌==◌, List, [], ◌∷◌, ◌++◌, length, refl, sym, ◌∙◌, arith}
use Rattle.std.specs.List.{All, sum_by, flat_map, slice_index}
use Rattle.std.proofs.lemmas.Bool.{eqb-true}
use Rattle.std.proofs.lemmas.List.Sums.{sum_by-append, sum_by-cons}
use Rattle.std.proofs.lemmas.List.Elements.{All-head, All-tail}
use Rattle.clip_regions.specs.declared.region.Region.{Region}
use Rattle.clip_regions.specs.Regions.{empty_region}
use Rattle.plan_model.specs.Laws.{AllEvenOrEmpty, AreNested}
use Rattle.active_region.specs.Active.{IsWideOrEmpty}
use Rattle.terrain_model.specs.Terrain.{Terrain}
use Rattle.mesh_model.specs.declared.shapes.Vertex.{Vertex}
use Rattle.mesh_model.specs.Vertices.{mesh_vertices}
use Rattle.mesh_model.specs.Parts.{PartTriangles, square_parts, square_parts_from, stitch_parts, stitch_parts_from, all_stitch_parts, parts_of_regions}
use Rattle.mesh_model.specs.Mesh.{mesh, mesh_of_parts}
use Rattle.mesh_model.specs.Laws.{VerticesApart, OwnPlaces}
use Rattle.mesh_model.specs.Watertight.{has_edge, edge_count}
use Rattle.mesh_laws.specs.Laws.{PartSquares}
use Rattle.watertight_laws.specs.Edges.{Spot, coarser_spot, square_edges_from, stitch_edges_from, all_stitch_edges, edges_between}
use Rattle.watertight_laws.specs.Laws.{spot_of}
use Rattle.watertight_laws.proofs.Sums.{one_if, sum_flat_map}
use Rattle.watertight_laws.proofs.Marks.{Marks, marks_first, marks_next}
use Rattle.watertight_laws.proofs.Squares.{edges_of, ring_tally}
use Rattle.watertight_laws.proofs.Borders.{border_tally}

-- ---- a triangle goes from one place to another along one edge at most
exclusive : (pa pb qa qb ra rb : Bool) → (pa ≡ true → pb ≡ true → ⊥) → (qa ≡ true → qb ≡ true → ⊥) → (ra ≡ true → rb ≡ true → ⊥) →
    cond (((pa && qb) || (qa && rb)) || (ra && pb)) 1 0 ≡ (one_if (pa && qb) + one_if (qa && rb)) + one_if (ra && pb)
exclusive pa pb qa qb ra rb hp hq hr = grind arith

one_edge : (a b : ℕ) → a ≢ b → (triangle : List ℕ) → cond (has_edge a b triangle) 1 0 ≡ edges_of a b triangle
unfolding has_edge
one_edge a b other triangle =
    let p = slice_index triangle 0 in
    let q = slice_index triangle 1 in
    let r = slice_index triangle 2 in
    exclusive (p == a) (p == b) (q == a) (q == b) (r == a) (r == b) (apart p) (apart q) (apart r)
  where
    apart : (x : ℕ) → (x == a) ≡ true → (x == b) ≡ true → ⊥
    apart x e e' = other (sym (eqb-true x a e) ∙ eqb-true x b e')

count_is : (triangles : List (List ℕ)) (a b : ℕ) → a ≢ b → edge_count triangles a b ≡ sum_by (edges_of a b) triangles
unfolding edge_count
count_is triangles a b other = λ t. sum_by (λ triangle. one_edge a b other triangle t) triangles

at_least : (x y z : Bool) → cond ((x || y) || z) 1 0 ≤ (one_if x + one_if y) + one_if z
at_least true y z = omega arith
at_least false true z = omega arith
at_least false false true = omega arith
at_least false false false = omega arith

pub count_most : (triangles : List (List ℕ)) (a b : ℕ) → edge_count triangles a b ≤ sum_by (edges_of a b) triangles
unfolding edge_count has_edge
count_most [] a b = omega arith
count_most (t ∷ ts) a b =
    let p = slice_index t 0 in
    let q = slice_index t 1 in
    let r = slice_index t 2 in
    let here = at_least (p == a && q == b) (q == a && r == b) (r == a && p == b) in
    let rest = count_most ts a b in
    let counts = sum_by-cons (λ (t' : List ℕ). cond (has_edge a b t') 1 0) t ts in
    let sums = sum_by-cons (edges_of a b) t ts in
    omega (arith, here, rest, counts, sums)

-- ---- over the parts of the levels
tally : ℕ → ℕ → List PartTriangles → ℕ
tally a b parts = sum_by (edges_of a b) (flat_map (λ (part : PartTriangles). part.triangles) parts)

tally_append : (a b : ℕ) (xs ys : List PartTriangles) → tally a b (xs ++ ys) ≡ tally a b xs + tally a b ys
unfolding tally
tally_append a b xs ys =
    let f : PartTriangles → ℕ = λ part. sum_by (edges_of a b) part.triangles in
    sum_flat_map (edges_of a b) (λ (part : PartTriangles). part.triangles) (xs ++ ys)
    ∙ sum_by-append f xs ys
    ∙ (λ t. sym (sum_flat_map (edges_of a b) (λ (part : PartTriangles). part.triangles) xs) t + sym (sum_flat_map (edges_of a b) (λ (part : PartTriangles). part.triangles) ys) t)

squares_from : PartSquares → (vertices : List Vertex) (level a b : ℕ) (p q : Spot) (finer : Region) (actives : List Region) → Marks vertices level a p → Marks vertices level b q →
    tally a b (square_parts_from vertices level finer actives) ≡ square_edges_from finer actives p q
unfolding tally
squares_from parts vertices level a b p q finer [] ma mb = refl
squares_from parts vertices level a b p q finer (active ∷ coarser) ma mb =
    let here = ring_tally vertices level a b p q ma mb parts finer active in
    let rest = squares_from parts vertices (level + 1) a b (coarser_spot p) (coarser_spot q) active coarser (marks_next vertices level a p ma) (marks_next vertices level b q mb) in
    tally_append a b (square_parts vertices level finer active) (square_parts_from vertices (level + 1) active coarser) ∙ (λ t. here t + rest t)

stitches_from : (vertices : List Vertex) (level a b : ℕ) (p q : Spot) (active : Region) (coarser : List Region) → Marks vertices level a p → Marks vertices level b q →
    AllEvenOrEmpty (active ∷ coarser) → All IsWideOrEmpty (active ∷ coarser) → tally a b (stitch_parts_from vertices level active coarser) ≡ stitch_edges_from active coarser p q
unfolding tally
stitches_from vertices level a b p q active [] ma mb shapes wide = refl
stitches_from vertices level a b p q active (next ∷ coarser) ma mb shapes wide =
    let here = border_tally vertices level a b p q ma mb active (All-head IsWideOrEmpty active (next ∷ coarser) wide) shapes.0 in
    let rest = stitches_from vertices (level + 1) a b (coarser_spot p) (coarser_spot q) next coarser (marks_next vertices level a p ma) (marks_next vertices level b q mb) shapes.1 (All-tail IsWideOrEmpty active (next ∷ coarser) wide) in
    tally_append a b (stitch_parts vertices level active) (stitch_parts_from vertices (level + 1) next coarser) ∙ (λ t. here t + rest t)

all_stitches : (vertices : List Vertex) (a b : ℕ) (p q : Spot) (actives : List Region) → Marks vertices 0 a p → Marks vertices 0 b q →
    AllEvenOrEmpty actives → All IsWideOrEmpty actives → tally a b (all_stitch_parts vertices actives) ≡ all_stitch_edges actives p q
unfolding tally
all_stitches vertices a b p q [] ma mb shapes wide = refl
all_stitches vertices a b p q (active ∷ coarser) ma mb shapes wide = stitches_from vertices 0 a b p q active coarser ma mb shapes wide

pub mesh_tally : PartSquares → VerticesApart → OwnPlaces → (terrain : Terrain) (k e : ℕ) (actives : List Region) (a b : ℕ) → AllEvenOrEmpty actives → All IsWideOrEmpty actives → AreNested e actives →
    a < length (mesh_vertices terrain k actives) → b < length (mesh_vertices terrain k actives) →
    sum_by (edges_of a b) (mesh terrain k actives).triangles ≡ edges_between actives (spot_of (mesh_vertices terrain k actives) a) (spot_of (mesh_vertices terrain k actives) b)
unfolding mesh mesh_of_parts parts_of_regions edges_between tally
mesh_tally parts apart own terrain k e actives a b shapes wide nested low low' =
    let vertices = mesh_vertices terrain k actives in
    let pairs = apart terrain k e actives nested in
    let ma = marks_first vertices a pairs own low in
    let mb = marks_first vertices b pairs own low' in
    tally_append a b (square_parts_from vertices 0 empty_region actives) (all_stitch_parts vertices actives)
    ∙ (λ t. squares_from parts vertices 0 a b (spot_of vertices a) (spot_of vertices b) empty_region actives ma mb t + all_stitches vertices a b (spot_of vertices a) (spot_of vertices b) actives ma mb shapes wide t)

pub counted : PartSquares → VerticesApart → OwnPlaces → (terrain : Terrain) (k e : ℕ) (actives : List Region) (a b : ℕ) → AllEvenOrEmpty actives → All IsWideOrEmpty actives → AreNested e actives →
    a < length (mesh_vertices terrain k actives) → b < length (mesh_vertices terrain k actives) → a ≢ b →
    edge_count (mesh terrain k actives).triangles a b ≡ edges_between actives (spot_of (mesh_vertices terrain k actives) a) (spot_of (mesh_vertices terrain k actives) b)
counted parts apart own terrain k e actives a b shapes wide nested low low' other =
    count_is (mesh terrain k actives).triangles a b other ∙ mesh_tally parts apart own terrain k e actives a b shapes wide nested low low'
