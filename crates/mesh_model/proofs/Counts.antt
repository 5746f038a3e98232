-- How long the lists of one active region are, and which places its triangles name.
use Rattle.std.proofs.Common.{pos, ◌≡◌, ℕ, zero, suc, ◌+◌, ◌-◌, ◌*◌, ◌<◌, ◌≤◌, List, [], ◌∷◌, length, slice_index_or, refl, length-append, arith}
use Rattle.std.proofs.Math.Nat.{mul-le-mul_left}
use Rattle.std.specs.List.{All, flat_map, range_with_len}
use Rattle.std.proofs.lemmas.List.Elements.{All-nil, All-cons, All-append, All-weaker, All-take, All-drop}
use Rattle.std.proofs.lemmas.List.FromFn.{length-map-range_with_len}
use Rattle.clip_regions.specs.declared.region.Region.{Region}
use Rattle.clip_regions.specs.Regions.{columns, rows}
use Rattle.terrain_model.specs.Terrain.{Terrain}
use Rattle.mesh_model.specs.declared.shapes.Vertex.{Vertex}
use Rattle.mesh_model.specs.declared.shapes.Part.{Part}
use Rattle.mesh_model.specs.Conditions.{NameVertices, IsInside, HoldsVertices, BoundsHold, triangles_of_part}
use Rattle.mesh_model.specs.OneLevel.{one_level_vertex, one_level_row, one_level_vertices, one_level_square, one_level_strip, one_level_triangles}

-- rows of one length
length_rows : {A : Type 0} (f : ℕ → List A) (m s n : ℕ) → ((v : ℕ) → length (f v) ≡ m) → length (flat_map f (range_with_len s n)) ≡ m * n
length_rows f m s zero h = omega arith
length_rows f m s (suc n) h =
    omega (arith, length-append (f s) (flat_map f (range_with_len (s + 1) n)), h s, length_rows f m (s + 1) n h)

pub vertex_count : (terrain : Terrain) (r : Region) → length (one_level_vertices terrain r) ≡ columns r * rows r
unfolding one_level_vertices one_level_row
vertex_count terrain r =
    length_rows (one_level_row terrain r) (columns r) 0 (rows r) (λ v. length-map-range_with_len (one_level_vertex terrain r v) 0 (columns r))

pub triangle_count : (r : Region) → length (one_level_triangles r) ≡ 2 * ((columns r - 1) * (rows r - 1))
unfolding one_level_triangles one_level_strip one_level_square
triangle_count r =
    let strip = λ (v : ℕ). length_rows (one_level_square (columns r) v) 2 0 (columns r - 1) (λ u. refl) in
    let whole = length_rows (one_level_strip (columns r)) (2 * (columns r - 1)) 0 (rows r - 1) strip in
    omega (arith, whole)

-- what is true of each row is true of all
all_rows : {A : Type 0} (P : A → Type 0) (f : ℕ → List A) (s n : ℕ) → ((v : ℕ) → s ≤ v → v < s + n → All P (f v)) → All P (flat_map f (range_with_len s n))
all_rows P f s zero h = All-nil P
all_rows P f s (suc n) h =
    All-append P (f s) (flat_map f (range_with_len (s + 1) n)) (h s (omega arith) (omega arith))
    (all_rows P f (s + 1) n (λ v low high. h v (omega arith) (omega arith)))

in_grid : (width height u v : ℕ) → u < width → v < height → v * width + u < width * height
in_grid width height u v narrow low =
    let below : v + 1 ≤ height = omega arith in
    omega (arith, mul-le-mul_left width below)

pub all_three : (count a b c : ℕ) → a < count → b < count → c < count → All (λ place. place < count) (a ∷ b ∷ c ∷ [])
all_three count a b c ha hb hc =
    let P : ℕ → Type 0 = λ place. place < count in
    All-cons P a (b ∷ c ∷ []) ha (All-cons P b (c ∷ []) hb (All-cons P c [] hc (All-nil P)))

square_names : (width height u v : ℕ) → u + 1 < width → v + 1 < height → NameVertices (width * height) (one_level_square width v u)
unfolding one_level_square
square_names width height u v narrow low =
    let P : List ℕ → Type 0 = λ triangle. All (λ place. place < width * height) triangle in
    let north_west = in_grid width height u v (omega arith) (omega arith) in
    let south_west = in_grid width height u (v + 1) (omega arith) low in
    let south_east : (v + 1) * width + u + 1 < width * height = omega (arith, in_grid width height (u + 1) (v + 1) narrow low) in
    let north_east : v * width + u + 1 < width * height = omega (arith, in_grid width height (u + 1) v narrow (omega arith)) in
    let first : List ℕ = (v * width + u) ∷ ((v + 1) * width + u) ∷ ((v + 1) * width + u + 1) ∷ [] in
    let second : List ℕ = (v * width + u) ∷ ((v + 1) * width + u + 1) ∷ (v * width + u + 1) ∷ [] in
    let first_named : P first = all_three (width * height) (v * width + u) ((v + 1) * width + u) ((v + 1) * width + u + 1) north_west south_west south_east in
    let second_named : P second = all_three (width * height) (v * width + u) ((v + 1) * width + u + 1) (v * width + u + 1) north_west south_east north_east in
    All-cons P first (second ∷ []) first_named (All-cons P second [] second_named (All-nil P))

pub names : (r : Region) → NameVertices (columns r * rows r) (one_level_triangles r)
unfolding one_level_triangles one_level_strip
names r =
    let P : List ℕ → Type 0 = λ triangle. All (λ place. place < columns r * rows r) triangle in
    all_rows P (one_level_strip (columns r)) 0 (rows r - 1) (λ v zero_v low.
    all_rows P (one_level_square (columns r) v) 0 (columns r - 1) (λ u zero_u narrow.
    square_names (columns r) (rows r) u v (omega arith) (omega arith)))

pub held : (vertices : List Vertex) (triangles : List (List ℕ)) (part : Part) →
    All (IsInside part.bounds) vertices → NameVertices (length vertices) triangles → BoundsHold vertices triangles (part ∷ [])
held vertices triangles part inside named =
    All-cons (λ p. HoldsVertices vertices p.bounds (triangles_of_part triangles p)) part [] whole (All-nil (λ p. HoldsVertices vertices p.bounds (triangles_of_part triangles p)))
  where
    corner : Vertex
    corner = record { x = pos 0; z = pos 0; height = pos 0 }

    P : List ℕ → Type 0
    P triangle = All (λ place. IsInside part.bounds (slice_index_or vertices place corner)) triangle

    whole : HoldsVertices vertices part.bounds (triangles_of_part triangles part)
    whole =
        All-take P part.count _ (All-drop P part.first triangles
        (All-weaker (λ triangle. All (λ place. place < length vertices) triangle) P
        (λ triangle below. All-weaker (λ place. place < length vertices) (λ place. IsInside part.bounds (slice_index_or vertices place corner)) (λ place low. inside place corner low) triangle below)
        triangles named))
