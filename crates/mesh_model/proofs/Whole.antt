-- Parts one after another cover their triangles, and their bounds hold the vertices of these.
use Rattle.std.proofs.Common.{◌≡◌, ℕ, ◌+◌, ◌<◌, List, [], ◌∷◌, ◌++◌, ℤ, pos, ◌≤ℤ◌, length, take, drop, map, get_or, refl, ap, sym, subst, ◌∙◌, append_assoc, length-append, arith}
use Rattle.std.specs.List.{All, fold, flat_map}
use Rattle.std.specs.Int.{int_min, int_max}
use Rattle.std.proofs.lemmas.Int.{fold-int_min_bounds, fold-int_max_bounds}
use Rattle.std.proofs.lemmas.List.{get_or-map, get_or_append_left, get_or-append-add, take_at, drop_at, length-map}
use Rattle.std.proofs.lemmas.List.Elements.{All-nil, All-cons}
use Rattle.mesh_model.specs.declared.shapes.Vertex.{Vertex}
use Rattle.mesh_model.specs.declared.shapes.Bounds.{Bounds}
use Rattle.mesh_model.specs.Parts.{PartTriangles}
use Rattle.mesh_model.specs.Mesh.{least, greatest, bounds_of, vertices_of, part_at, parts_from, mesh_of_parts}
use Rattle.mesh_model.specs.Conditions.{NameVertices, CoverInOrder, IsInside, HoldsVertices, BoundsHold, triangles_of_part}

pub all_left : {A : Type 0} (P : A → Type 0) (xs ys : List A) → All P (xs ++ ys) → All P xs
all_left P xs ys h k d low =
    subst P (get_or_append_left xs ys d k low) (h k d (omega (arith, length-append xs ys)))

pub all_right : {A : Type 0} (P : A → Type 0) (xs ys : List A) → All P (xs ++ ys) → All P ys
all_right P xs ys h k d low =
    subst P (get_or-append-add xs ys k d) (h (length xs + k) d (omega (arith, length-append xs ys)))

pub all_of_map : {A B : Type 0} (P : B → Type 0) (f : A → B) (xs : List A) → All P (map f xs) → All (λ x. P (f x)) xs
all_of_map P f xs h k d low =
    subst P (get_or-map f xs k d (f d) low) (h k (f d) (omega (arith, length-map xs f)))

pub all_of_flat_map : {A B : Type 0} (P : B → Type 0) (f : A → List B) (xs : List A) → All P (flat_map f xs) → All (λ x. All P (f x)) xs
all_of_flat_map P f [] h = All-nil (λ x. All P (f x))
all_of_flat_map P f (x ∷ xs) h =
    All-cons (λ y. All P (f y)) x xs (all_left P (f x) (flat_map f xs) h)
    (all_of_flat_map P f xs (all_right P (f x) (flat_map f xs) h))

least_is_low : (xs : List ℤ) → All (λ x. least xs ≤ℤ x) xs
least_is_low [] = All-nil (λ x. least [] ≤ℤ x)
least_is_low (x ∷ xs) =
    let low = fold-int_min_bounds x xs (fold int_min x xs) refl in
    All-cons (λ y. fold int_min x xs ≤ℤ y) x xs low.0 low.1

greatest_is_high : (xs : List ℤ) → All (λ x. x ≤ℤ greatest xs) xs
greatest_is_high [] = All-nil (λ x. x ≤ℤ greatest [])
greatest_is_high (x ∷ xs) =
    let high = fold-int_max_bounds x xs (fold int_max x xs) refl in
    All-cons (λ y. y ≤ℤ fold int_max x xs) x xs high.0 high.1

-- each of some vertices lies in their bounds
inside_bounds : (vertices : List Vertex) → All (IsInside (bounds_of vertices)) vertices
unfolding bounds_of
inside_bounds vertices k d low = record {
  x_low = all_of_map (λ x. least (map (λ v. v.x) vertices) ≤ℤ x) (λ v. v.x) vertices (least_is_low (map (λ v. v.x) vertices)) k d low;
  x_high = all_of_map (λ x. x ≤ℤ greatest (map (λ v. v.x) vertices)) (λ v. v.x) vertices (greatest_is_high (map (λ v. v.x) vertices)) k d low;
  z_low = all_of_map (λ z. least (map (λ v. v.z) vertices) ≤ℤ z) (λ v. v.z) vertices (least_is_low (map (λ v. v.z) vertices)) k d low;
  z_high = all_of_map (λ z. z ≤ℤ greatest (map (λ v. v.z) vertices)) (λ v. v.z) vertices (greatest_is_high (map (λ v. v.z) vertices)) k d low;
  height_low = all_of_map (λ h. least (map (λ v. v.height) vertices) ≤ℤ h) (λ v. v.height) vertices (least_is_low (map (λ v. v.height) vertices)) k d low;
  height_high = all_of_map (λ h. h ≤ℤ greatest (map (λ v. v.height) vertices)) (λ v. v.height) vertices (greatest_is_high (map (λ v. v.height) vertices)) k d low;
}

-- the bounds of the vertices of some triangles hold these
held_by_bounds : (vertices : List Vertex) (triangles : List (List ℕ)) → NameVertices (length vertices) triangles → HoldsVertices vertices (bounds_of (vertices_of vertices triangles)) triangles
unfolding vertices_of
held_by_bounds vertices triangles named k d low k' d' low' =
    let box : Bounds = bounds_of (vertices_of vertices triangles) in
    let none : Vertex = record { x = pos 0; z = pos 0; height = pos 0 } in
    let corners = all_of_flat_map (IsInside box) (λ triangle. map (λ place. get_or vertices place none) triangle) triangles (inside_bounds (vertices_of vertices triangles)) k d low in
    all_of_map (IsInside box) (λ place. get_or vertices place none) (get_or triangles k d) corners k' d' low'

covered_from : (vertices : List Vertex) (first : ℕ) (parts : List PartTriangles) → CoverInOrder first (first + length (flat_map (λ part. part.triangles) parts)) (parts_from vertices first parts)
unfolding part_at
covered_from vertices first [] = omega arith
covered_from vertices first (part ∷ parts) =
    let rest : List (List ℕ) = flat_map (λ part. part.triangles) parts in
    let reached : first + length part.triangles + length rest ≡ first + length (part.triangles ++ rest) = omega (arith, length-append part.triangles rest) in
    (refl, subst (λ to. CoverInOrder (first + length part.triangles) to (parts_from vertices (first + length part.triangles) parts)) reached (covered_from vertices (first + length part.triangles) parts))

pub covered : (vertices : List Vertex) (parts : List PartTriangles) → CoverInOrder 0 (length (mesh_of_parts vertices parts).triangles) (mesh_of_parts vertices parts).parts
unfolding mesh_of_parts
covered vertices parts =
    let all : 0 + length (flat_map (λ (part : PartTriangles). part.triangles) parts) ≡ length (flat_map (λ (part : PartTriangles). part.triangles) parts) = omega arith in
    subst (λ to. CoverInOrder 0 to (parts_from vertices 0 parts)) all (covered_from vertices 0 parts)

-- a part's triangles are those that stand at its place
first_held : (vertices : List Vertex) (front : List (List ℕ)) (part : PartTriangles) (rest : List (List ℕ)) → NameVertices (length vertices) part.triangles →
    HoldsVertices vertices (part_at vertices (length front) part).bounds (triangles_of_part (front ++ (part.triangles ++ rest)) (part_at vertices (length front) part))
unfolding part_at
first_held vertices front part rest named =
    let own : take (length part.triangles) (drop (length front) (front ++ (part.triangles ++ rest))) ≡ part.triangles =
    ap (take (length part.triangles)) (drop_at front (part.triangles ++ rest) (length front) refl) ∙ take_at part.triangles rest (length part.triangles) refl in
    subst (HoldsVertices vertices (bounds_of (vertices_of vertices part.triangles))) (sym own) (held_by_bounds vertices part.triangles named)

bounded_from : (vertices : List Vertex) (front : List (List ℕ)) (parts : List PartTriangles) → NameVertices (length vertices) (flat_map (λ part. part.triangles) parts) →
    BoundsHold vertices (front ++ flat_map (λ part. part.triangles) parts) (parts_from vertices (length front) parts)
bounded_from vertices front [] named = All-nil (λ part. HoldsVertices vertices part.bounds (triangles_of_part (front ++ []) part))
bounded_from vertices front (part ∷ parts) named =
    All-cons (λ p. HoldsVertices vertices p.bounds (triangles_of_part (front ++ (part.triangles ++ rest)) p)) (part_at vertices (length front) part) (parts_from vertices (length front + length part.triangles) parts)
    (first_held vertices front part rest (all_left (λ triangle. All (λ place. place < length vertices) triangle) part.triangles rest named))
    (moved (bounded_from vertices (front ++ part.triangles) parts (all_right (λ triangle. All (λ place. place < length vertices) triangle) part.triangles rest named)))
  where
    rest : List (List ℕ)
    rest = flat_map (λ part. part.triangles) parts

    moved : BoundsHold vertices ((front ++ part.triangles) ++ rest) (parts_from vertices (length (front ++ part.triangles)) parts) →
        BoundsHold vertices (front ++ (part.triangles ++ rest)) (parts_from vertices (length front + length part.triangles) parts)
    moved h =
        subst (λ first. BoundsHold vertices (front ++ (part.triangles ++ rest)) (parts_from vertices first parts)) (length-append front part.triangles)
        (subst (λ whole. BoundsHold vertices whole (parts_from vertices (length (front ++ part.triangles)) parts)) (append_assoc front part.triangles rest) h)

pub bounded : (vertices : List Vertex) (parts : List PartTriangles) → NameVertices (length vertices) (mesh_of_parts vertices parts).triangles → BoundsHold vertices (mesh_of_parts vertices parts).triangles (mesh_of_parts vertices parts).parts
unfolding mesh_of_parts
bounded vertices parts named = bounded_from vertices [] parts named
