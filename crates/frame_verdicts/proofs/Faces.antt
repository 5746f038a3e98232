-- No face of a mesh is tilted: the corners of a ring square's triangles stand one spacing apart along both axes, and stitches are flat.
use Rattle.std.proofs.Common.{◌≡◌, ℕ, zero, suc, ◌+◌, ◌^◌, ◌<◌, ◌≤◌, Bool, true, false, not, ◌&&◌, ◌||◌, List, [], ◌∷◌, ◌++◌, ℤ, pos, ◌+ℤ◌, ◌-ℤ◌, ◌*ℤ◌, length, get_or, refl, ap, sym, subst, ◌∙◌, arith, IsTrue}
use Rattle.std.specs.List.{All, flat_map, slice_index}
use Rattle.std.specs.Ordering.{int_eq}
use Rattle.std.proofs.lemmas.Int.{ints}
use Rattle.std.proofs.Math.IntN.{zero-*ℤ, *ℤ-zero}
use Rattle.std.proofs.lemmas.Bool.{false_from_ne_true}
use Rattle.std.proofs.lemmas.List.Elements.{All-nil, All-append, All-map}
use Rattle.std.proofs.lemmas.Grind.{flat_map-append}
use Rattle.clip_regions.specs.declared.region.Region.{Region}
use Rattle.clip_regions.specs.Regions.{empty_region, cells}
use Rattle.terrain_model.specs.Terrain.{Terrain}
use Rattle.mesh_model.specs.declared.shapes.Vertex.{Vertex}
use Rattle.mesh_model.specs.Vertices.{mesh_vertices, vertex_of_place}
use Rattle.mesh_model.specs.Parts.{PartTriangles, corner_place, square_triangles, square_parts, square_parts_from, all_stitch_parts, parts_of_regions}
use Rattle.mesh_model.specs.Mesh.{mesh, mesh_of_parts}
use Rattle.mesh_model.specs.Conditions.{NameVertices}
use Rattle.mesh_model.specs.Watertight.{is_middle, StitchesAreFlat}
use Rattle.mesh_laws.specs.Squares.{part_squares, triangles_in}
use Rattle.mesh_laws.specs.Laws.{PartSquares}
use Rattle.mesh_check.specs.Verdict.{on_one_line, is_tilted, is_tilted_face}
use Rattle.mesh_model.proofs.Whole.{all_of_map}
use Rattle.mesh_model.proofs.Cells.{all_flat_map}
use Rattle.watertight_laws.proofs.Picks.{same_from}
use Rattle.frame_verdicts.proofs.Corners.{StandsAt, corner_there}

-- a triangle that names vertices isn't tilted
abbrev IsSound : List Vertex → List ℕ → Type 0
IsSound vertices triangle = All (λ place. place < length vertices) triangle → is_tilted_face vertices triangle ≡ false

-- ---- squares
some_power : (level : ℕ) → 1 ≤ 2 ^ level
some_power zero = omega arith
some_power (suc level) = let more = some_power level in omega (arith, more)

-- from a corner to the next one
step_is : (i : ℤ) (n : ℕ) → (i +ℤ pos 1) *ℤ pos n -ℤ i *ℤ pos n ≡ pos n
step_is i n = grind (arith, ints)

stay_is : (x : ℤ) → x -ℤ x ≡ pos 0
stay_is x = omega (arith, ints)

square_some : (n : ℕ) → 1 ≤ n → pos 0 ≡ pos n *ℤ pos n → ⊥
square_some zero some e = omega (arith, some)
square_some (suc n) some e = omega (arith, ints, e)

-- nothing and a square of some spacing
other_products : (left right : ℤ) (n : ℕ) → 1 ≤ n → left ≡ pos 0 → right ≡ pos n *ℤ pos n → int_eq left right ≡ false
other_products left right n some none square =
    false_from_ne_true (int_eq left right) (λ t. square_some n some (sym none ∙ same_from left right t ∙ square))

sound_off : (a b c : Vertex) → on_one_line a b c ≡ false → is_tilted a b c ≡ false
unfolding is_tilted
sound_off a b c off = ap (λ line. line && not ((is_middle a b c || is_middle b c a) || is_middle c a b)) off

-- north-west, south-west, south-east
lower_off : (a b c : Vertex) (i j : ℤ) (n : ℕ) → 1 ≤ n → StandsAt a (i *ℤ pos n) (j *ℤ pos n) → StandsAt b (i *ℤ pos n) ((j +ℤ pos 1) *ℤ pos n) →
    StandsAt c ((i +ℤ pos 1) *ℤ pos n) ((j +ℤ pos 1) *ℤ pos n) → on_one_line a b c ≡ false
unfolding on_one_line
lower_off a b c i j n some at_a at_b at_c =
    let across : b.x -ℤ a.x ≡ pos 0 = (λ t. at_b.column t -ℤ at_a.column t) ∙ stay_is (i *ℤ pos n) in
    let down : b.z -ℤ a.z ≡ pos n = (λ t. at_b.row t -ℤ at_a.row t) ∙ step_is j n in
    let east : c.x -ℤ a.x ≡ pos n = (λ t. at_c.column t -ℤ at_a.column t) ∙ step_is i n in
    other_products ((b.x -ℤ a.x) *ℤ (c.z -ℤ a.z)) ((b.z -ℤ a.z) *ℤ (c.x -ℤ a.x)) n some
    (ap (λ x. x *ℤ (c.z -ℤ a.z)) across ∙ zero-*ℤ (c.z -ℤ a.z)) (λ t. down t *ℤ east t)

-- north-west, south-east, north-east
upper_off : (a b c : Vertex) (i j : ℤ) (n : ℕ) → 1 ≤ n → StandsAt a (i *ℤ pos n) (j *ℤ pos n) → StandsAt b ((i +ℤ pos 1) *ℤ pos n) ((j +ℤ pos 1) *ℤ pos n) →
    StandsAt c ((i +ℤ pos 1) *ℤ pos n) (j *ℤ pos n) → on_one_line a b c ≡ false
unfolding on_one_line
upper_off a b c i j n some at_a at_b at_c =
    let along : c.z -ℤ a.z ≡ pos 0 = (λ t. at_c.row t -ℤ at_a.row t) ∙ stay_is (j *ℤ pos n) in
    let down : b.z -ℤ a.z ≡ pos n = (λ t. at_b.row t -ℤ at_a.row t) ∙ step_is j n in
    let east : c.x -ℤ a.x ≡ pos n = (λ t. at_c.column t -ℤ at_a.column t) ∙ step_is i n in
    other_products ((b.x -ℤ a.x) *ℤ (c.z -ℤ a.z)) ((b.z -ℤ a.z) *ℤ (c.x -ℤ a.x)) n some
    (ap (λ z. (b.x -ℤ a.x) *ℤ z) along ∙ *ℤ-zero (b.x -ℤ a.x)) (λ t. down t *ℤ east t)

square_sound : (vertices : List Vertex) (level : ℕ) (i j : ℤ) → All (IsSound vertices) (square_triangles vertices level i j)
unfolding square_triangles is_tilted_face
square_sound vertices level i j k d low = triangle k low
  where
    at : ℕ → Vertex
    at place = vertex_of_place vertices place

    north_west : ℕ
    north_west = corner_place vertices level i j

    south_west : ℕ
    south_west = corner_place vertices level i (j +ℤ pos 1)

    south_east : ℕ
    south_east = corner_place vertices level (i +ℤ pos 1) (j +ℤ pos 1)

    north_east : ℕ
    north_east = corner_place vertices level (i +ℤ pos 1) j

    lower : IsSound vertices (north_west ∷ south_west ∷ south_east ∷ [])
    lower named =
        sound_off (at north_west) (at south_west) (at south_east)
        (lower_off (at north_west) (at south_west) (at south_east) i j (2 ^ level) (some_power level)
        (corner_there vertices level i j (named 0 0 (omega arith)))
        (corner_there vertices level i (j +ℤ pos 1) (named 1 0 (omega arith)))
        (corner_there vertices level (i +ℤ pos 1) (j +ℤ pos 1) (named 2 0 (omega arith))))

    upper : IsSound vertices (north_west ∷ south_east ∷ north_east ∷ [])
    upper named =
        sound_off (at north_west) (at south_east) (at north_east)
        (upper_off (at north_west) (at south_east) (at north_east) i j (2 ^ level) (some_power level)
        (corner_there vertices level i j (named 0 0 (omega arith)))
        (corner_there vertices level (i +ℤ pos 1) (j +ℤ pos 1) (named 1 0 (omega arith)))
        (corner_there vertices level (i +ℤ pos 1) j (named 2 0 (omega arith))))

    triangle : (m : ℕ) → m < 2 → IsSound vertices (get_or (square_triangles vertices level i j) m d)
    triangle zero low' = lower
    triangle (suc zero) low' = upper
    triangle (suc (suc m)) low' = absurd (omega (arith, low'))

squares_sound : (vertices : List Vertex) (level : ℕ) (r : Region) → All (IsSound vertices) (triangles_in vertices level r)
unfolding triangles_in
squares_sound vertices level r =
    all_flat_map (IsSound vertices) (λ (cell : ℤ × ℤ). square_triangles vertices level cell.0 cell.1) (cells r)
    (λ k d low. square_sound vertices level (get_or (cells r) k d).0 (get_or (cells r) k d).1)

abbrev IsSoundPart : List Vertex → PartTriangles → Type 0
IsSoundPart vertices part = All (IsSound vertices) part.triangles

ring_sound : PartSquares → (vertices : List Vertex) (level : ℕ) (finer active : Region) → All (IsSoundPart vertices) (square_parts vertices level finer active)
ring_sound parts vertices level finer active =
    all_of_map (All (IsSound vertices)) (λ (part : PartTriangles). part.triangles) (square_parts vertices level finer active)
    (subst (λ (lists : List (List (List ℕ))). All (All (IsSound vertices)) lists) (sym (parts vertices level finer active))
    (All-map (All (IsSound vertices)) (triangles_in vertices level) (part_squares finer active) (λ k d low. squares_sound vertices level (get_or (part_squares finer active) k d))))

rings_sound : PartSquares → (vertices : List Vertex) (level : ℕ) (finer : Region) (actives : List Region) → All (IsSoundPart vertices) (square_parts_from vertices level finer actives)
rings_sound parts vertices level finer [] = All-nil (IsSoundPart vertices)
rings_sound parts vertices level finer (active ∷ coarser) =
    All-append (IsSoundPart vertices) (square_parts vertices level finer active) (square_parts_from vertices (level + 1) active coarser)
    (ring_sound parts vertices level finer active) (rings_sound parts vertices (level + 1) active coarser)

-- ---- stitches
stitch_off : (line first second third : Bool) → IsTrue first → (line && not ((first || second) || third)) ≡ false
stitch_off false first second third is = refl
stitch_off true true second third is = refl
stitch_off true false second third is = cc

sound_flat : (a b c : Vertex) → IsTrue (is_middle a b c) → is_tilted a b c ≡ false
unfolding is_tilted
sound_flat a b c flat = stitch_off (on_one_line a b c) (is_middle a b c) (is_middle b c a) (is_middle c a b) flat

-- ---- the mesh
pub none_tilted : PartSquares → (terrain : Terrain) (k : ℕ) (actives : List Region) → StitchesAreFlat terrain k actives →
    NameVertices (length (mesh terrain k actives).vertices) (mesh terrain k actives).triangles →
    All (λ triangle. is_tilted_face (mesh terrain k actives).vertices triangle ≡ false) (mesh terrain k actives).triangles
unfolding mesh mesh_of_parts parts_of_regions is_tilted_face
none_tilted parts terrain k actives flat named n d low = sound n d low (named n d low)
  where
    vertices : List Vertex
    vertices = mesh_vertices terrain k actives

    squares : List PartTriangles
    squares = square_parts_from vertices 0 empty_region actives

    stitches : List PartTriangles
    stitches = all_stitch_parts vertices actives

    triangles : PartTriangles → List (List ℕ)
    triangles part = part.triangles

    stitch_sound : All (IsSound vertices) (flat_map triangles stitches)
    stitch_sound m e below _ =
        let stitch = get_or (flat_map triangles stitches) m e in
        sound_flat (vertex_of_place vertices (slice_index stitch 0)) (vertex_of_place vertices (slice_index stitch 1)) (vertex_of_place vertices (slice_index stitch 2)) (flat m e below)

    sound : All (IsSound vertices) (flat_map triangles (squares ++ stitches))
    sound =
        subst (All (IsSound vertices)) (sym (flat_map-append triangles squares stitches))
        (All-append (IsSound vertices) (flat_map triangles squares) (flat_map triangles stitches)
        (all_flat_map (IsSound vertices) triangles squares (rings_sound parts vertices 0 empty_region actives)) stitch_sound)
