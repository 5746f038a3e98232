-- A part whose box lies outside a half-space, and the points of its triangles.
use Rattle.std.proofs.Common.{◌≡◌, ℕ, ◌<◌, Bool, true, false, ℤ, pos, ◌+ℤ◌, ◌*ℤ◌, ◌<ℤ◌, ◌≤ℤ◌, List, [], ◌∷◌, length, map, get_or, drop, inl, inr, refl, ap, ◌∙◌, arith}
use Rattle.std.specs.List.{All, Contains, list_any, flat_map}
use Rattle.std.specs.Prelude.{int_lt}
use Rattle.std.proofs.lemmas.Int.{ints}
use Rattle.std.proofs.lemmas.Bool.{or_cases, false≢true, not-false, not_from_true, cases_Bool}
use Rattle.std.proofs.lemmas.List.Folds.{list_any_at}
use Rattle.std.proofs.lemmas.List.Elements.{All-nil, All-head, All-tail, All-append, All-map, All-take, All-drop, All-weaker, All-contains, Contains-append_right}
use Rattle.clip_regions.proofs.Cells.{lt_tested}
use Rattle.mesh_model.specs.declared.shapes.Vertex.{Vertex}
use Rattle.mesh_model.specs.declared.shapes.Bounds.{Bounds}
use Rattle.mesh_model.specs.declared.shapes.Part.{Part}
use Rattle.mesh_model.specs.declared.shapes.HalfSpace.{HalfSpace}
use Rattle.mesh_model.specs.Mesh.{MeshLists, vertices_of}
use Rattle.mesh_model.specs.Conditions.{IsMesh, IsInside, HoldsVertices, NameVertices, triangles_of_part}
use Rattle.mesh_model.specs.Seen.{is_box_outside, is_box_kept, is_kept, kept_parts, flagged_parts}
use Rattle.mesh_model.specs.Dropped.{Weighted, mean, mixture_value, is_in_view, is_vertex_outside, part_vertices}
use Rattle.mesh_model.proofs.Sides.{box_outside, outside_is, below_zero, spread, moved}

-- ---- lists
-- an element that passes a test
found : {A : Type 0} (p : A → Bool) (xs : List A) → list_any p xs ≡ true → (x : A) × Contains xs x × (p x ≡ true)
found p [] e = absurd (false≢true e)
found p (x ∷ xs) e =
    elim (or_cases (p x) (list_any p xs) e) [
      | inl here ↦ (x, (0, omega arith, refl), here)
      | inr later ↦ let f = found p xs later in (f.0, Contains-append_right (x ∷ []) xs f.0 f.1, f.2)
    ]

passed : {A : Type 0} (p : A → Bool) (xs : List A) (x : A) → Contains xs x → p x ≡ true → list_any p xs ≡ true
passed p xs x has e = list_any_at p xs has.0 x has.1 (ap p has.2 ∙ e)

pub all_flat : {A B : Type 0} (P : B → Type 0) (f : A → List B) (xs : List A) → All (λ x. All P (f x)) xs → All P (flat_map f xs)
all_flat P f [] h = All-nil P
all_flat P f (x ∷ xs) h =
    All-append P (f x) (flat_map f xs) (All-head (λ y. All P (f y)) x xs h) (all_flat P f xs (All-tail (λ y. All P (f y)) x xs h))

-- ---- vertices of a part
none : Vertex
none = record { x = pos 0; z = pos 0; height = pos 0 }

-- vertices of triangles that lie in a box
boxed : (vertices : List Vertex) (box : Bounds) (triangles : List (List ℕ)) → NameVertices (length vertices) triangles → HoldsVertices vertices box triangles → All (IsInside box) (vertices_of vertices triangles)
unfolding vertices_of none
boxed vertices box triangles named held =
    all_flat (IsInside box) (λ triangle. map (λ place. get_or vertices place none) triangle) triangles
    (λ k d low. All-map (IsInside box) (λ place. get_or vertices place none) (get_or triangles k d)
    (λ k' d' low'. held k d low k' d' low'))

-- the vertices of a part of a mesh lie in its box
pub part_boxed : (lists : MeshLists) (part : Part) → IsMesh lists → Contains lists.parts part → All (IsInside part.bounds) (part_vertices lists part)
part_boxed lists part is listed =
    boxed lists.vertices part.bounds (triangles_of_part lists.triangles part)
    (All-take Named part.count (drop part.first lists.triangles) (All-drop Named part.first lists.triangles is.places))
    (All-contains (λ p. HoldsVertices lists.vertices p.bounds (triangles_of_part lists.triangles p)) lists.parts part is.bounds listed)
  where
    Named : List ℕ → Type 0
    Named triangle = All (λ place. place < length lists.vertices) triangle

-- the half-space that drops a part
pub dropping : (view : List HalfSpace) (box : Bounds) → is_box_kept view box ≡ false → (space : HalfSpace) × Contains view space × (is_box_outside space box ≡ true)
unfolding is_box_kept
dropping view box e = found (λ space. is_box_outside space box) view (not-false (list_any (λ space. is_box_outside space box) view) e)

pub dropped : (view : List HalfSpace) (lists : MeshLists) (part : Part) → IsMesh lists → Contains lists.parts part → is_kept view part ≡ false →
    (space : HalfSpace) × Contains view space × All (λ vertex. is_vertex_outside space vertex ≡ true) (part_vertices lists part)
dropped view lists part is listed e =
    let drops = dropping view part.bounds e in
    (drops.0, drops.1, All-weaker (IsInside part.bounds) (λ vertex. is_vertex_outside drops.0 vertex ≡ true) (λ vertex inside. box_outside drops.0 part.bounds vertex drops.2 inside) (part_vertices lists part) (part_boxed lists part is listed))

-- ---- points between vertices
abbrev corner_sum : ℤ → ℤ → ℤ → ℤ → ℤ
corner_sum p q r d = pos 32 *ℤ p +ℤ q +ℤ pos 32 *ℤ r +ℤ pos 32 *ℤ d

-- a value times a weight, term by term
weighted_sum : (w : ℕ) (p q r d : ℤ) → pos w *ℤ corner_sum p q r d ≡ corner_sum (pos w *ℤ p) (pos w *ℤ q) (pos w *ℤ r) (d *ℤ pos w)
weighted_sum w p q r d =
    let first = spread (pos w) (pos 32 *ℤ p +ℤ q +ℤ pos 32 *ℤ r) (pos 32 *ℤ d) in
    let second = spread (pos w) (pos 32 *ℤ p +ℤ q) (pos 32 *ℤ r) in
    let third = spread (pos w) (pos 32 *ℤ p) q in
    omega (arith, ints, first, second, third, moved 32 (pos w) p, moved 32 (pos w) r, moved 32 (pos w) d)

-- at a point of some vertices outside, the value is at most the weight below zero
weighed : (space : HalfSpace) (corners : List Weighted) → All (λ corner. is_vertex_outside space corner.vertex ≡ true) corners → (mixture_value space (mean corners) +ℤ pos (mean corners).weight) ≤ℤ pos 0
unfolding mixture_value
weighed space [] h = omega (arith, ints)
weighed space (first ∷ others) h =
    let rest = mean others in
    let v = first.vertex in
    let before : (mixture_value space rest +ℤ pos rest.weight) ≤ℤ pos 0 = weighed space others (All-tail (λ corner. is_vertex_outside space corner.vertex ≡ true) first others h) in
    let here = outside_is space v.x v.height v.z (All-head (λ corner. is_vertex_outside space corner.vertex ≡ true) first others h) in
    let w = first.weight in
    let times = below_zero w (corner_sum (space.a *ℤ v.x) (space.b *ℤ v.height) (space.c *ℤ v.z) space.d) here in
    let sum = weighted_sum w (space.a *ℤ v.x) (space.b *ℤ v.height) (space.c *ℤ v.z) space.d in
    let across = spread space.a (pos w *ℤ v.x) rest.x ∙ ap (λ t. t +ℤ space.a *ℤ rest.x) (moved w space.a v.x) in
    let up = spread space.b (pos w *ℤ v.height) rest.height ∙ ap (λ t. t +ℤ space.b *ℤ rest.height) (moved w space.b v.height) in
    let along = spread space.c (pos w *ℤ v.z) rest.z ∙ ap (λ t. t +ℤ space.c *ℤ rest.z) (moved w space.c v.z) in
    let more = spread space.d (pos w) (pos rest.weight) in
    omega (arith, ints, before, times, sum, across, up, along, more)

pub unseen : (view : List HalfSpace) (lists : MeshLists) (part : Part) → IsMesh lists → Contains lists.parts part → is_kept view part ≡ false →
    (corners : List Weighted) → All (λ corner. Contains (part_vertices lists part) corner.vertex) corners → 0 < (mean corners).weight → is_in_view view (mean corners) ≡ false
unfolding is_in_view
unseen view lists part is listed e corners of some =
    let drops = dropped view lists part is listed e in
    let space = drops.0 in
    let outside = All-weaker (λ corner. Contains (part_vertices lists part) corner.vertex) (λ corner. is_vertex_outside space corner.vertex ≡ true)
    (λ corner has. All-contains (λ vertex. is_vertex_outside space vertex ≡ true) (part_vertices lists part) corner.vertex drops.2 has) corners of in
    let low : mixture_value space (mean corners) <ℤ pos 0 = omega (arith, ints, weighed space corners outside) in
    not_from_true (list_any (λ s. int_lt (mixture_value s (mean corners)) (pos 0)) view)
    (passed (λ s. int_lt (mixture_value s (mean corners)) (pos 0)) view space drops.1 (lt_tested (mixture_value space (mean corners)) (pos 0) low))

-- ---- flags
pub flags_keep : (view : List HalfSpace) (parts : List Part) → flagged_parts (map (is_kept view) parts) parts ≡ kept_parts view parts
flags_keep view [] = refl
flags_keep view (part ∷ parts) =
    elim (cases_Bool (is_kept view part)) [
      | inl kept ↦ rw kept (ap (λ rest. part ∷ rest) (flags_keep view parts))
      | inr dropped ↦ rw dropped (flags_keep view parts)
    ]
