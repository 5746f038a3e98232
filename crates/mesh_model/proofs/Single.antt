-- The mesh of one active region, step by step from the definitions to the closed formulas.
use Rattle.std.proofs.Common.{◌≡◌, ℕ, zero, suc, ◌+◌, ◌-◌, ◌*◌, ◌<◌, ◌≤◌, Bool, true, false, not, ◌&&◌, List, [], ◌∷◌, ℤ, pos, negsuc, ◌+ℤ◌, ◌-ℤ◌, map, refl, ap, sym, ◌∙◌, append-nil, arith}
use Rattle.std.specs.List.{flat_map, range_with_len}
use Rattle.std.specs.Prelude.{int_le}
use Rattle.std.specs.Int.{int_gap}
use Rattle.std.proofs.lemmas.Int.{ints}
use Rattle.clip_regions.specs.declared.region.Region.{Region}
use Rattle.clip_regions.specs.Regions.{contains, is_empty, empty_region, columns, rows, cells}
use Rattle.terrain_model.specs.Terrain.{Terrain}
use Rattle.mesh_model.specs.declared.shapes.Vertex.{Vertex}
use Rattle.mesh_model.specs.declared.shapes.PartKind.TheVariants.{Whole}
use Rattle.mesh_model.specs.Vertices.{LevelCell, hole, cells_outside, vertex_at, mesh_vertices, place_of}
use Rattle.mesh_model.specs.Parts.{corner_place, square_triangles, squares_in, square_part, square_parts, parts_of_regions}
use Rattle.mesh_model.specs.OneLevel.{one_level_vertex, one_level_row, one_level_vertices, one_level_square, one_level_strip, one_level_triangles}
use Rattle.mesh_model.proofs.Ranges.{map_of_map, filter_all, map_grid, flat_map_grid, flat_map_agree}
use Rattle.mesh_model.proofs.Places.{AreRows, place_in_rows}
use Rattle.mesh_model.proofs.Heights.{times_one, one_level_height}

no_hole : hole empty_region ≡ empty_region
unfolding hole is_empty
no_hole = refl

no_hole_empty : is_empty (hole empty_region) ≡ true
unfolding hole is_empty
no_hole_empty = refl

none_inside : (i j : ℤ) → contains empty_region i j ≡ false
unfolding contains
none_inside (pos i) j = refused (int_le (pos 0) (pos i)) (int_le (pos 0) j && int_le j (negsuc 0))
  where
    refused : (p q : Bool) → ((p && false) && q) ≡ false
    refused true q = refl
    refused false q = refl
none_inside (negsuc i) j = refl

all_outside : (r : Region) → cells_outside empty_region r ≡ cells r
unfolding cells_outside
all_outside r =
    filter_all (λ cell. not (contains (hole empty_region) cell.0 cell.1)) (cells r)
    (λ cell. rw no_hole (ap not (none_inside cell.0 cell.1)))

vertex_is : (terrain : Terrain) (k : ℕ) (r : Region) (u v : ℕ) → k ≤ 8 →
    vertex_at terrain k (r ∷ []) (record { level = 0; i = r.x0 +ℤ pos u; j = r.y0 +ℤ pos v }) ≡ one_level_vertex terrain r v u
unfolding vertex_at one_level_vertex
vertex_is terrain k r u v high =
    λ t. record {
      x = times_one (r.x0 +ℤ pos u) t;
      z = times_one (r.y0 +ℤ pos v) t;
      height = one_level_height terrain k r (r.x0 +ℤ pos u) (r.y0 +ℤ pos v) high t;
    }

pub single_vertices : (terrain : Terrain) (k : ℕ) (r : Region) → k ≤ 8 → mesh_vertices terrain k (r ∷ []) ≡ one_level_vertices terrain r
unfolding mesh_vertices one_level_vertices one_level_row
single_vertices terrain k r high =
    ap (map at) (append-nil (map named (cells_outside empty_region r)))
    ∙ ap (λ list. map at (map named list)) (all_outside r)
    ∙ map_of_map at named (cells r)
    ∙ map_grid (λ cell. at (named cell)) r.x0 r.y0 (columns r) (rows r)
    ∙ (λ t. flat_map (λ v. map (λ u. vertex_is terrain k r u v high t) (range_with_len 0 (columns r))) (range_with_len 0 (rows r)))
  where
    at : LevelCell → Vertex
    at = vertex_at terrain k (r ∷ [])

    named : ℤ × ℤ → LevelCell
    named cell = record { level = 0; i = cell.0; j = cell.1 }

pub single_place : (terrain : Terrain) (r : Region) (u v : ℕ) → u < columns r → v < rows r →
    place_of (one_level_vertices terrain r) (r.x0 +ℤ pos u) (r.y0 +ℤ pos v) ≡ v * columns r + u
unfolding one_level_vertices one_level_row one_level_vertex
single_place terrain r u v narrow low =
    let are : AreRows (one_level_vertex terrain r) r.x0 r.y0 = record { column = λ w s. refl; row = λ w s. refl } in
    let found = place_in_rows (one_level_vertex terrain r) r.x0 r.y0 are (columns r) u v 0 (rows r) narrow (omega arith) (omega arith) in
    omega (arith, found)

single_corner : (terrain : Terrain) (r : Region) (u v n : ℕ) (i j : ℤ) → u < columns r → v < rows r → i ≡ r.x0 +ℤ pos u → j ≡ r.y0 +ℤ pos v → v * columns r + u ≡ n →
    corner_place (one_level_vertices terrain r) 0 i j ≡ n
unfolding corner_place
single_corner terrain r u v n i j narrow low ei ej en =
    (λ t. place_of (one_level_vertices terrain r) (times_one i t) (times_one j t))
    ∙ (λ t. place_of (one_level_vertices terrain r) (ei t) (ej t))
    ∙ single_place terrain r u v narrow low
    ∙ en

next_column : (a : ℤ) (u : ℕ) → (a +ℤ pos u) +ℤ pos 1 ≡ a +ℤ pos (u + 1)
next_column a u = omega (arith, ints)

single_square : (terrain : Terrain) (r : Region) (u v : ℕ) → u + 1 < columns r → v + 1 < rows r →
    square_triangles (one_level_vertices terrain r) 0 (r.x0 +ℤ pos u) (r.y0 +ℤ pos v) ≡ one_level_square (columns r) v u
unfolding square_triangles one_level_square
single_square terrain r u v narrow low =
    let i : ℤ = r.x0 +ℤ pos u in
    let j : ℤ = r.y0 +ℤ pos v in
    let north_west = single_corner terrain r u v (v * columns r + u) i j (omega arith) (omega arith) refl refl refl in
    let south_west = single_corner terrain r u (v + 1) ((v + 1) * columns r + u) i (j +ℤ pos 1) (omega arith) low refl (next_column r.y0 v) refl in
    let south_east = single_corner terrain r (u + 1) (v + 1) ((v + 1) * columns r + u + 1) (i +ℤ pos 1) (j +ℤ pos 1) narrow low (next_column r.x0 u) (next_column r.y0 v) (omega arith) in
    let north_east = single_corner terrain r (u + 1) v (v * columns r + u + 1) (i +ℤ pos 1) j narrow (omega arith) (next_column r.x0 u) refl (omega arith) in
    λ t. (north_west t ∷ south_west t ∷ south_east t ∷ []) ∷ (north_west t ∷ south_east t ∷ north_east t ∷ []) ∷ []

-- between two lines lies one column less than from one to the other
gap_less : (a b : ℤ) → int_gap a (b -ℤ pos 1 +ℤ pos 1) ≡ int_gap a (b +ℤ pos 1) - 1
gap_less a b = ap (int_gap a) (back b) ∙ step a b
  where
    back : (x : ℤ) → x -ℤ pos 1 +ℤ pos 1 ≡ x
    back x = omega (arith, ints)

    step : (x y : ℤ) → int_gap x y ≡ int_gap x (y +ℤ pos 1) - 1
    step (pos x) (pos y) = omega arith
    step (pos x) (negsuc zero) = omega arith
    step (pos x) (negsuc (suc y)) =
        let e : negsuc (suc y) +ℤ pos 1 ≡ negsuc y = omega (arith, ints) in
        ap (λ z. int_gap (pos x) z - 1) (sym e)
    step (negsuc x) (pos y) = omega arith
    step (negsuc x) (negsuc zero) = omega arith
    step (negsuc x) (negsuc (suc y)) =
        let e : negsuc (suc y) +ℤ pos 1 ≡ negsuc y = omega (arith, ints) in
        let less : x - suc y ≡ x - y - 1 = omega arith in
        less ∙ ap (λ z. int_gap (negsuc x) z - 1) (sym e)

pub single_triangles : (terrain : Terrain) (r : Region) → (square_part (one_level_vertices terrain r) 0 Whole (squares_in r)).triangles ≡ one_level_triangles r
unfolding square_part squares_in one_level_triangles one_level_strip columns rows
single_triangles terrain r =
    flat_map_grid (λ cell. square_triangles vertices 0 cell.0 cell.1) r.x0 r.y0 (int_gap r.x0 (r.x1 -ℤ pos 1 +ℤ pos 1)) (int_gap r.y0 (r.y1 -ℤ pos 1 +ℤ pos 1))
    ∙ (λ t. flat_map (λ v. flat_map (λ u. square_triangles vertices 0 (r.x0 +ℤ pos u) (r.y0 +ℤ pos v)) (range_with_len 0 (gap_less r.x0 r.x1 t))) (range_with_len 0 (gap_less r.y0 r.y1 t)))
    ∙ flat_map_agree (λ v. flat_map (λ u. square_triangles vertices 0 (r.x0 +ℤ pos u) (r.y0 +ℤ pos v)) (range_with_len 0 (columns r - 1))) (one_level_strip (columns r)) 0 (rows r - 1)
    (λ v low high. flat_map_agree (λ u. square_triangles vertices 0 (r.x0 +ℤ pos u) (r.y0 +ℤ pos v)) (one_level_square (columns r) v) 0 (columns r - 1)
    (λ u left right. single_square terrain r u v (omega arith) (omega arith)))
  where
    vertices : List Vertex
    vertices = one_level_vertices terrain r

pub single_part : (vertices : List Vertex) (r : Region) → is_empty r ≡ false →
    parts_of_regions vertices (r ∷ []) ≡ square_part vertices 0 Whole (squares_in r) ∷ []
unfolding parts_of_regions square_parts
single_part vertices r some = rw (some, no_hole_empty) refl
