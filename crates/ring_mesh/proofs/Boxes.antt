-- Boxes round vertices, one vertex after another, are the bounds of the definition.
use Rattle.std.proofs.Common.{◌≡◌, ℕ, ◌+◌, ◌<◌, ◌≤◌, List, [], ◌∷◌, ◌++◌, length, get_or, drop, map, ℤ, pos, refl, ap, sym, ◌∙◌, arith}
use Rattle.std.specs.Prelude.{slice_index}
use Rattle.std.specs.List.{fold}
use Rattle.std.specs.Int.{int_min, int_max}
use Rattle.std.proofs.lemmas.Int.{ints, clamps}
use Rattle.std.proofs.lemmas.List.{at_drop_more, at_drop_all}
use Rattle.mesh_model.specs.declared.shapes.Vertex.{Vertex}
use Rattle.mesh_model.specs.declared.shapes.Bounds.{Bounds}
use Rattle.mesh_model.specs.Mesh.{vertices_of, bounds_of}
use Rattle.mesh_model.specs.Vertices.{vertex_of_place}
use Rattle.ring_mesh.specs.Boxes.{point_box, wider, widest, Holds, HoldsCorners}

widest_append : (box : Bounds) (xs ys : List Vertex) → widest box (xs ++ ys) ≡ widest (widest box xs) ys
widest_append box [] ys = refl
widest_append box (x ∷ xs) ys = widest_append (wider box x) xs ys

widest_is : (box : Bounds) (vs : List Vertex) → widest box vs ≡ record {
  x0 = fold int_min box.x0 (map (λ v. v.x) vs);
  x1 = fold int_max box.x1 (map (λ v. v.x) vs);
  z0 = fold int_min box.z0 (map (λ v. v.z) vs);
  z1 = fold int_max box.z1 (map (λ v. v.z) vs);
  low = fold int_min box.low (map (λ v. v.height) vs);
  high = fold int_max box.high (map (λ v. v.height) vs);
}
widest_is box [] = refl
widest_is box (v ∷ vs) = widest_is (wider box v) vs

min_same : (a : ℤ) → int_min a a ≡ a
min_same a = omega (arith, ints, clamps)

max_same : (a : ℤ) → int_max a a ≡ a
max_same a = omega (arith, ints, clamps)

min_again : (a b : ℤ) → int_min (int_min a b) b ≡ int_min a b
min_again a b = omega (arith, ints, clamps)

max_again : (a b : ℤ) → int_max (int_max a b) b ≡ int_max a b
max_again a b = omega (arith, ints, clamps)

min_swap : (a b d : ℤ) → int_min (int_min a b) d ≡ int_min (int_min a d) b
min_swap a b d = omega (arith, ints, clamps)

max_swap : (a b d : ℤ) → int_max (int_max a b) d ≡ int_max (int_max a d) b
max_swap a b d = omega (arith, ints, clamps)

point_wider : (v : Vertex) → wider (point_box v) v ≡ point_box v
point_wider v = λ t. record { x0 = min_same v.x t; x1 = max_same v.x t; z0 = min_same v.z t; z1 = max_same v.z t; low = min_same v.height t; high = max_same v.height t }

-- a box that was made to hold a vertex holds it
wider_again : (box : Bounds) (v : Vertex) → wider (wider box v) v ≡ wider box v
wider_again box v = λ t. record {
  x0 = min_again box.x0 v.x t;
  x1 = max_again box.x1 v.x t;
  z0 = min_again box.z0 v.z t;
  z1 = max_again box.z1 v.z t;
  low = min_again box.low v.height t;
  high = max_again box.high v.height t;
}

wider_swap : (box : Bounds) (v w : Vertex) → wider (wider box v) w ≡ wider (wider box w) v
wider_swap box v w = λ t. record {
  x0 = min_swap box.x0 v.x w.x t;
  x1 = max_swap box.x1 v.x w.x t;
  z0 = min_swap box.z0 v.z w.z t;
  z1 = max_swap box.z1 v.z w.z t;
  low = min_swap box.low v.height w.height t;
  high = max_swap box.high v.height w.height t;
}

-- what a box holds, a wider one holds too
pub held_still : (box : Bounds) (v w : Vertex) → wider box w ≡ box → wider (wider box v) w ≡ wider box v
held_still box v w held = wider_swap box v w ∙ ap (λ (b : Bounds). wider b v) held

-- the same of a vertex by its place
pub held_after : (vertices : List Vertex) (box after : Bounds) (v : Vertex) (place : ℕ) → after ≡ wider box v → Holds box vertices place → Holds after vertices place
held_after vertices box after v place made held =
    let w = vertex_of_place vertices place in
    ap (λ (x : Bounds). wider x w) made ∙ held_still box v w held ∙ sym made

-- the box of one vertex holds it
pub point_held : (vertices : List Vertex) (box : Bounds) (place : ℕ) → box ≡ point_box (vertex_of_place vertices place) → Holds box vertices place
point_held vertices box place made =
    let w = vertex_of_place vertices place in
    ap (λ (x : Bounds). wider x w) made ∙ point_wider w ∙ sym made

-- the three places of a triangle
pub three : (places : List ℕ) → length places ≡ 3 → places ≡ slice_index places 0 ∷ slice_index places 1 ∷ slice_index places 2 ∷ []
three [] e = absurd (omega (arith, e))
three (a ∷ []) e = absurd (omega (arith, e))
three (a ∷ b ∷ []) e = absurd (omega (arith, e))
three (a ∷ b ∷ d ∷ []) e = refl
three (a ∷ b ∷ d ∷ f ∷ rest) e = absurd (omega (arith, e))

-- the box of a triangle's vertices holds them
pub corners_held : (vertices : List Vertex) (box after : Bounds) (triangle : List ℕ) → length triangle ≡ 3 → after ≡ widest box (map (vertex_of_place vertices) triangle) → HoldsCorners after vertices triangle
corners_held vertices box after [] e made = absurd (omega (arith, e))
corners_held vertices box after (a ∷ []) e made = absurd (omega (arith, e))
corners_held vertices box after (a ∷ b ∷ []) e made = absurd (omega (arith, e))
corners_held vertices box after (a ∷ b ∷ d ∷ []) e made =
    let u = vertex_of_place vertices a in
    let v = vertex_of_place vertices b in
    let w = vertex_of_place vertices d in
    let one = wider box u in
    let two = wider one v in
    record {
      first = ap (λ (x : Bounds). wider x u) made ∙ held_still two w u (held_still one v u (wider_again box u)) ∙ sym made;
      second = ap (λ (x : Bounds). wider x v) made ∙ held_still two w v (wider_again one v) ∙ sym made;
      third = ap (λ (x : Bounds). wider x w) made ∙ wider_again two w ∙ sym made;
    }
corners_held vertices box after (a ∷ b ∷ d ∷ f ∷ rest) e made = absurd (omega (arith, e))

pub bounds_are : (v : Vertex) (vs : List Vertex) → widest (point_box v) (v ∷ vs) ≡ bounds_of (v ∷ vs)
unfolding bounds_of
bounds_are v vs = ap (λ box. widest box vs) (point_wider v) ∙ widest_is (point_box v) vs

-- the vertices of one triangle more
pub box_more : (vertices : List Vertex) (triangles : List (List ℕ)) (i : ℕ) (d : List ℕ) (box after whole : Bounds) → i < length triangles →
    after ≡ widest box (map (vertex_of_place vertices) (get_or triangles i d)) → widest box (vertices_of vertices (drop i triangles)) ≡ whole →
    widest after (vertices_of vertices (drop (i + 1) triangles)) ≡ whole
unfolding vertices_of
box_more vertices triangles i d box after whole here added made =
    let rest = vertices_of vertices (drop (i + 1) triangles) in
    ap (λ (b : Bounds). widest b rest) added
    ∙ sym (widest_append box (map (vertex_of_place vertices) (get_or triangles i d)) rest)
    ∙ ap (λ (list : List Vertex). widest box list) (sym (at_drop_more (vertices_of vertices) triangles i d here))
    ∙ made

pub box_done : (vertices : List Vertex) (triangles : List (List ℕ)) (i : ℕ) (box whole : Bounds) → length triangles ≤ i → widest box (vertices_of vertices (drop i triangles)) ≡ whole → box ≡ whole
unfolding vertices_of
box_done vertices triangles i box whole done made =
    ap (λ (list : List Vertex). widest box list) (sym (at_drop_all (vertices_of vertices) triangles i done)) ∙ made

pub no_bounds : (vertices : List Vertex) (triangles : List (List ℕ)) → length triangles ≡ 0 → record { x0 = pos 0; x1 = pos 0; z0 = pos 0; z1 = pos 0; low = pos 0; high = pos 0 } ≡ bounds_of (vertices_of vertices triangles)
unfolding vertices_of bounds_of
no_bounds vertices [] none = refl
no_bounds vertices (t ∷ ts) none = absurd (omega (arith, none))

-- all triangles' vertices, from the box of the first
pub box_begun : (vertices : List Vertex) (triangles : List (List ℕ)) (d : List ℕ) (place : ℕ) (box : Bounds) → 0 < length triangles → 0 < length (get_or triangles 0 d) →
    place ≡ get_or (get_or triangles 0 d) 0 0 → box ≡ point_box (vertex_of_place vertices place) →
    widest box (vertices_of vertices triangles) ≡ bounds_of (vertices_of vertices triangles)
unfolding vertices_of
box_begun vertices [] d place box some corner here made = absurd (omega (arith, some))
box_begun vertices ([] ∷ ts) d place box some corner here made = absurd (omega (arith, corner))
box_begun vertices ((p ∷ ps) ∷ ts) d place box some corner here made =
    let rest = map (vertex_of_place vertices) ps ++ vertices_of vertices ts in
    (λ t. widest (made t) (vertex_of_place vertices p ∷ rest))
    ∙ (λ t. widest (point_box (vertex_of_place vertices (here t))) (vertex_of_place vertices p ∷ rest))
    ∙ bounds_are (vertex_of_place vertices p) rest
