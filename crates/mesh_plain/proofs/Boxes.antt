-- The vertices of one triangle more, and bounds from their six numbers.
use Rattle.std.proofs.Common.{◌≡◌, ℕ, ◌+◌, ◌<◌, ◌≤◌, List, ◌++◌, length, get_or, drop, map, ℤ, ap, sym, ◌∙◌, append_assoc, append-nil}
use Rattle.std.proofs.lemmas.List.{at_drop_more, at_drop_all}
use Rattle.mesh_model.specs.declared.shapes.Vertex.{Vertex}
use Rattle.mesh_model.specs.declared.shapes.Bounds.{Bounds}
use Rattle.mesh_model.specs.Mesh.{least, greatest, vertices_of, bounds_of}
use Rattle.mesh_model.specs.Vertices.{vertex_of_place}

pub corners_more : (vertices : List Vertex) (triangles : List (List ℕ)) (i : ℕ) (d : List ℕ) (before after whole : List Vertex) → i < length triangles → after ≡ before ++ map (vertex_of_place vertices) (get_or triangles i d) → before ++ vertices_of vertices (drop i triangles) ≡ whole → after ++ vertices_of vertices (drop (i + 1) triangles) ≡ whole
unfolding vertices_of
corners_more vertices triangles i d before after whole here added made =
    let rest = vertices_of vertices (drop (i + 1) triangles) in
    ap (λ (now : List Vertex). now ++ rest) added
    ∙ append_assoc before (map (vertex_of_place vertices) (get_or triangles i d)) rest
    ∙ ap (λ (later : List Vertex). before ++ later) (sym (at_drop_more (vertices_of vertices) triangles i d here))
    ∙ made

pub corners_done : (vertices : List Vertex) (triangles : List (List ℕ)) (i : ℕ) (found whole : List Vertex) → length triangles ≤ i → found ++ vertices_of vertices (drop i triangles) ≡ whole → found ≡ whole
unfolding vertices_of
corners_done vertices triangles i found whole done made =
    sym (append-nil found)
    ∙ ap (λ (rest : List Vertex). found ++ rest) (sym (at_drop_all (vertices_of vertices) triangles i done))
    ∙ made

pub box_is : (vertices : List Vertex) (x0 x1 z0 z1 low high : ℤ) → x0 ≡ least (map (λ v. v.x) vertices) → x1 ≡ greatest (map (λ v. v.x) vertices) → z0 ≡ least (map (λ v. v.z) vertices) → z1 ≡ greatest (map (λ v. v.z) vertices) → low ≡ least (map (λ v. v.height) vertices) → high ≡ greatest (map (λ v. v.height) vertices) → ◌≡◌ {A = Bounds} (record { x0 = x0; x1 = x1; z0 = z0; z1 = z1; low = low; high = high }) (bounds_of vertices)
unfolding bounds_of
box_is vertices x0 x1 z0 z1 low high a b d e f g =
    λ t. record { x0 = a t; x1 = b t; z0 = d t; z1 = e t; low = f t; high = g t }
