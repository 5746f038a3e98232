-- Each triangle of a mesh has three corners, so one that names vertices goes along no edge from or to a place that is none.
use Rattle.std.proofs.Common.{◌≡◌, ℕ, zero, suc, ◌+◌, ◌<◌, ◌≤◌, false, ◌&&◌, ◌||◌, ◌==◌, List, [], ◌∷◌, ◌++◌, reverse, ℤ, length, get_or, refl, ap, sym, subst, inl, inr, ◌⊎◌, arith}
use Rattle.std.specs.List.{All, slice_index}
use Rattle.std.proofs.lemmas.Bool.{cases_Bool, and_right, false_from_ne_true, eqb-true}
use Rattle.std.proofs.lemmas.List.Elements.{All-nil, All-cons, All-head, All-tail, All-append, All-map}
use Rattle.std.proofs.lemmas.List.Sums.{sum_by-cons}
use Rattle.clip_regions.specs.declared.region.Region.{Region}
use Rattle.clip_regions.specs.Regions.{is_empty, empty_region, cells}
use Rattle.terrain_model.specs.Terrain.{Terrain}
use Rattle.mesh_model.specs.declared.shapes.Vertex.{Vertex}
use Rattle.mesh_model.specs.declared.shapes.PartKind.{PartKind}
use Rattle.mesh_model.specs.declared.shapes.PartKind.TheVariants.{StitchNorth, StitchEast, StitchSouth, StitchWest}
use Rattle.mesh_model.specs.Vertices.{mesh_vertices}
use Rattle.mesh_model.specs.Parts.{PartTriangles, square_triangles, square_parts, square_parts_from, stitches_from, stitches_along, places_in_row, places_in_column, stitch_part, stitch_parts, stitch_parts_from, all_stitch_parts, parts_of_regions}
use Rattle.mesh_model.specs.Mesh.{mesh, mesh_of_parts}
use Rattle.mesh_model.specs.Conditions.{NameVertices}
use Rattle.mesh_model.specs.Watertight.{has_edge, edge_count}
use Rattle.mesh_laws.specs.Squares.{part_squares, triangles_in}
use Rattle.mesh_laws.specs.Laws.{PartSquares}
use Rattle.watertight_laws.proofs.Sums.{one_if}
use Rattle.mesh_model.proofs.Whole.{all_of_map}
use Rattle.mesh_model.proofs.Cells.{all_flat_map}

abbrev Three : List ℕ → Type 0
Three triangle = length triangle ≡ 3

abbrev AllThree : PartTriangles → Type 0
AllThree part = All Three part.triangles

square_three : (vertices : List Vertex) (level : ℕ) (i j : ℤ) → All Three (square_triangles vertices level i j)
unfolding square_triangles
square_three vertices level i j k d low = corners k low
  where
    corners : (m : ℕ) → m < 2 → Three (get_or (square_triangles vertices level i j) m d)
    corners zero low' = refl
    corners (suc zero) low' = refl
    corners (suc (suc m)) low' = absurd (omega (arith, low'))

squares_three : (vertices : List Vertex) (level : ℕ) (r : Region) → All Three (triangles_in vertices level r)
unfolding triangles_in
squares_three vertices level r =
    all_flat_map Three (λ (cell : ℤ × ℤ). square_triangles vertices level cell.0 cell.1) (cells r) (λ k d low. square_three vertices level (get_or (cells r) k d).0 (get_or (cells r) k d).1)

ring_three : PartSquares → (vertices : List Vertex) (level : ℕ) (finer active : Region) → All AllThree (square_parts vertices level finer active)
ring_three parts vertices level finer active =
    all_of_map (All Three) (λ (part : PartTriangles). part.triangles) (square_parts vertices level finer active)
    (subst (λ (lists : List (List (List ℕ))). All (All Three) lists) (sym (parts vertices level finer active))
    (All-map (All Three) (triangles_in vertices level) (part_squares finer active) (λ k d low. squares_three vertices level (get_or (part_squares finer active) k d))))

rings_three : PartSquares → (vertices : List Vertex) (level : ℕ) (finer : Region) (actives : List Region) → All AllThree (square_parts_from vertices level finer actives)
rings_three parts vertices level finer [] = All-nil AllThree
rings_three parts vertices level finer (active ∷ coarser) =
    All-append AllThree (square_parts vertices level finer active) (square_parts_from vertices (level + 1) active coarser)
    (ring_three parts vertices level finer active) (rings_three parts vertices (level + 1) active coarser)

walk_three : (p : ℕ) (walk : List ℕ) → All Three (stitches_from p walk)
walk_three p [] = All-nil Three
walk_three p (m ∷ []) = All-nil Three
walk_three p (m ∷ (q ∷ walk)) = All-cons Three (p ∷ m ∷ q ∷ []) (stitches_from q walk) refl (walk_three q walk)

along_three : (walk : List ℕ) → All Three (stitches_along walk)
along_three [] = All-nil Three
along_three (p ∷ walk) = walk_three p walk

side_three : (level : ℕ) (kind : PartKind) (walk : List ℕ) → AllThree (stitch_part level kind walk)
unfolding stitch_part
side_three level kind walk = along_three walk

border_three : (vertices : List Vertex) (level : ℕ) (active : Region) → All AllThree (stitch_parts vertices level active)
unfolding stitch_parts
border_three vertices level active =
    elim (cases_Bool (is_empty active)) [
      | inl none ↦ rw none (All-nil AllThree)
      | inr some ↦ rw some around
    ]
  where
    n : PartTriangles
    n = stitch_part level StitchNorth (places_in_row vertices level active active.y0)

    e : PartTriangles
    e = stitch_part level StitchEast (places_in_column vertices level active active.x1)

    s : PartTriangles
    s = stitch_part level StitchSouth (reverse (places_in_row vertices level active active.y1))

    w : PartTriangles
    w = stitch_part level StitchWest (reverse (places_in_column vertices level active active.x0))

    around : All AllThree (n ∷ e ∷ s ∷ w ∷ [])
    around =
        All-cons AllThree n (e ∷ s ∷ w ∷ []) (side_three level StitchNorth (places_in_row vertices level active active.y0))
        (All-cons AllThree e (s ∷ w ∷ []) (side_three level StitchEast (places_in_column vertices level active active.x1))
        (All-cons AllThree s (w ∷ []) (side_three level StitchSouth (reverse (places_in_row vertices level active active.y1)))
        (All-cons AllThree w [] (side_three level StitchWest (reverse (places_in_column vertices level active active.x0))) (All-nil AllThree))))

borders_three : (vertices : List Vertex) (level : ℕ) (active : Region) (coarser : List Region) → All AllThree (stitch_parts_from vertices level active coarser)
borders_three vertices level active [] = All-nil AllThree
borders_three vertices level active (next ∷ coarser) =
    All-append AllThree (stitch_parts vertices level active) (stitch_parts_from vertices (level + 1) next coarser)
    (border_three vertices level active) (borders_three vertices (level + 1) next coarser)

all_borders_three : (vertices : List Vertex) (actives : List Region) → All AllThree (all_stitch_parts vertices actives)
all_borders_three vertices [] = All-nil AllThree
all_borders_three vertices (active ∷ coarser) = borders_three vertices 0 active coarser

pub mesh_three : PartSquares → (terrain : Terrain) (k : ℕ) (actives : List Region) → All Three (mesh terrain k actives).triangles
unfolding mesh mesh_of_parts parts_of_regions
mesh_three parts terrain k actives =
    let vertices = mesh_vertices terrain k actives in
    all_flat_map Three (λ (part : PartTriangles). part.triangles) (square_parts_from vertices 0 empty_region actives ++ all_stitch_parts vertices actives)
    (All-append AllThree (square_parts_from vertices 0 empty_region actives) (all_stitch_parts vertices actives)
    (rings_three parts vertices 0 empty_region actives) (all_borders_three vertices actives))

-- ---- a place that is none
other_place : (count x a : ℕ) → x < count → count ≤ a → (x == a) ≡ false
other_place count x a low high = false_from_ne_true (x == a) (λ t. let e : x ≡ a = eqb-true x a t in omega (arith, low, high, e))

no_edge : (count a b : ℕ) (triangle : List ℕ) → (count ≤ a) ⊎ (count ≤ b) → All (λ place. place < count) triangle → Three triangle → has_edge a b triangle ≡ false
unfolding has_edge
no_edge count a b triangle high named three = by_end high
  where
    corner : (m : ℕ) → m < 3 → slice_index triangle m < count
    corner m low = named m 0 (omega (arith, low, three))

    p : ℕ
    p = slice_index triangle 0

    q : ℕ
    q = slice_index triangle 1

    r : ℕ
    r = slice_index triangle 2

    by_end : (count ≤ a) ⊎ (count ≤ b) → (((p == a && q == b) || (q == a && r == b)) || (r == a && p == b)) ≡ false
    by_end (inl past) =
        let np = other_place count p a (corner 0 (omega arith)) past in
        let nq = other_place count q a (corner 1 (omega arith)) past in
        let nr = other_place count r a (corner 2 (omega arith)) past in
        λ t. ((np t && q == b) || (nq t && r == b)) || (nr t && p == b)
    by_end (inr past) =
        let np = and_right (r == a) (p == b) (other_place count p b (corner 0 (omega arith)) past) in
        let nq = and_right (p == a) (q == b) (other_place count q b (corner 1 (omega arith)) past) in
        let nr = and_right (q == a) (r == b) (other_place count r b (corner 2 (omega arith)) past) in
        λ t. (nq t || nr t) || np t

none_named : (count a b : ℕ) (triangles : List (List ℕ)) → (count ≤ a) ⊎ (count ≤ b) → NameVertices count triangles → All Three triangles → edge_count triangles a b ≡ 0
unfolding edge_count
none_named count a b [] high named three = refl
none_named count a b (t ∷ ts) high named three =
    let here : one_if (has_edge a b t) ≡ 0 = ap one_if (no_edge count a b t high (All-head (λ s. All (λ place. place < count) s) t ts named) (All-head Three t ts three)) in
    let rest = none_named count a b ts high (All-tail (λ s. All (λ place. place < count) s) t ts named) (All-tail Three t ts three) in
    let whole = sum_by-cons (λ (s : List ℕ). one_if (has_edge a b s)) t ts in
    omega (arith, here, rest, whole)

pub none_out : PartSquares → (terrain : Terrain) (k : ℕ) (actives : List Region) (a b : ℕ) → NameVertices (length (mesh_vertices terrain k actives)) (mesh terrain k actives).triangles →
    (length (mesh_vertices terrain k actives) ≤ a) ⊎ (length (mesh_vertices terrain k actives) ≤ b) → edge_count (mesh terrain k actives).triangles a b ≡ 0
none_out parts terrain k actives a b named high = none_named (length (mesh_vertices terrain k actives)) a b (mesh terrain k actives).triangles high named (mesh_three parts terrain k actives)
