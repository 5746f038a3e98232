-- The triangles of nested regions name vertices, since each of their corners is a cell of an active region.
use Rattle.std.proofs.Common.{◌≡◌, ℕ, ◌+◌, ◌-◌, ◌<◌, false, List, [], ◌∷◌, ◌++◌, reverse, ℤ, pos, ◌+ℤ◌, ◌-ℤ◌, ◌≤ℤ◌, length, sym, subst, inl, inr, arith}
use Rattle.std.specs.List.{All}
use Rattle.std.proofs.lemmas.Int.{ints}
use Rattle.std.proofs.lemmas.Bool.{cases_Bool}
use Rattle.std.proofs.lemmas.List.{length-reverse, get_or-reverse}
use Rattle.std.proofs.lemmas.List.Elements.{All-nil, All-cons, All-head, All-tail, All-append, All-map}
use Rattle.clip_regions.specs.declared.region.Region.{Region}
use Rattle.clip_regions.specs.Regions.{is_empty, empty_region, cells, columns, rows, numbers_from}
use Rattle.plan_model.specs.Laws.{AllEvenOrEmpty, AreNested}
use Rattle.terrain_model.specs.Terrain.{Terrain}
use Rattle.mesh_model.specs.declared.shapes.Vertex.{Vertex}
use Rattle.mesh_model.specs.declared.shapes.PartKind.{PartKind}
use Rattle.mesh_model.specs.declared.shapes.PartKind.TheVariants.{Whole, North, West, East, South, StitchNorth, StitchEast, StitchSouth, StitchWest}
use Rattle.mesh_model.specs.Vertices.{hole, mesh_vertices}
use Rattle.mesh_model.specs.Parts.{PartTriangles, corner_place, square_triangles, corners_at, squares_in, square_part, square_parts, stitches_from, stitches_along, places_in_row, places_in_column, stitch_part, stitch_parts, square_parts_from, stitch_parts_from, all_stitch_parts, parts_of_regions}
use Rattle.mesh_model.specs.Mesh.{mesh, mesh_of_parts}
use Rattle.mesh_model.specs.Conditions.{NameVertices}
use Rattle.mesh_model.proofs.Counts.{all_three}
use Rattle.mesh_model.proofs.Rectangles.{IsInner, hole_within, none_in}
use Rattle.mesh_model.proofs.Cells.{all_flat_map, all_between, all_cells}
use Rattle.mesh_model.proofs.Listed.{HasCorner, IsListed, AreListed, actives_listed}
use Rattle.clip_regions.proofs.Cells.{Lies, HasCell, has_cell, Within, empty_is_empty}

-- each place of a walk is below this count
abbrev Below : ℕ → List ℕ → Type 0
Below count places = All (λ place. place < count) places

-- ---- squares
-- the four corners of a square are cells of the region
record HasSquare (r : Region) (i j : ℤ) : Type 0 where
  west : r.x0 ≤ℤ i
  east : (i +ℤ pos 1) ≤ℤ r.x1
  north : r.y0 ≤ℤ j
  south : (j +ℤ pos 1) ≤ℤ r.y1

square_named : (vertices : List Vertex) (level : ℕ) (r : Region) (i j : ℤ) → IsListed vertices level r → HasSquare r i j → NameVertices (length vertices) (square_triangles vertices level i j)
unfolding square_triangles
square_named vertices level r i j listed h =
    let count = length vertices in
    let north_west : HasCorner vertices level i j = listed.at i j (record { west = h.west; east = omega (arith, ints); north = h.north; south = omega (arith, ints) }) in
    let south_west : HasCorner vertices level i (j +ℤ pos 1) = listed.at i (j +ℤ pos 1) (record { west = h.west; east = omega (arith, ints); north = omega (arith, ints); south = h.south }) in
    let south_east : HasCorner vertices level (i +ℤ pos 1) (j +ℤ pos 1) = listed.at (i +ℤ pos 1) (j +ℤ pos 1) (record { west = omega (arith, ints); east = h.east; north = omega (arith, ints); south = h.south }) in
    let north_east : HasCorner vertices level (i +ℤ pos 1) j = listed.at (i +ℤ pos 1) j (record { west = omega (arith, ints); east = h.east; north = h.north; south = omega (arith, ints) }) in
    let nw = corner_place vertices level i j in
    let sw = corner_place vertices level i (j +ℤ pos 1) in
    let se = corner_place vertices level (i +ℤ pos 1) (j +ℤ pos 1) in
    let ne = corner_place vertices level (i +ℤ pos 1) j in
    All-cons (Below count) (nw ∷ sw ∷ se ∷ []) ((nw ∷ se ∷ ne ∷ []) ∷ []) (all_three count nw sw se north_west south_west south_east)
    (All-cons (Below count) (nw ∷ se ∷ ne ∷ []) [] (all_three count nw se ne north_west south_east north_east) (All-nil (Below count)))

-- the triangles of a part name vertices
abbrev IsNamed : List Vertex → PartTriangles → Type 0
IsNamed vertices part = NameVertices (length vertices) part.triangles

-- lines that lie within a region
record Lines (r : Region) (x0 x1 y0 y1 : ℤ) : Type 0 where
  west : r.x0 ≤ℤ x0
  east : x1 ≤ℤ r.x1
  north : r.y0 ≤ℤ y0
  south : y1 ≤ℤ r.y1

part_named : (vertices : List Vertex) (level : ℕ) (kind : PartKind) (r : Region) (x0 x1 y0 y1 : ℤ) → IsListed vertices level r → Lines r x0 x1 y0 y1 →
    IsNamed vertices (square_part vertices level kind (squares_in (corners_at x0 y0 x1 y1)))
unfolding square_part squares_in
part_named vertices level kind r x0 x1 y0 y1 listed lines =
    all_flat_map (Below (length vertices)) (λ cell. square_triangles vertices level cell.0 cell.1) (cells squares)
    (all_cells (λ cell. NameVertices (length vertices) (square_triangles vertices level cell.0 cell.1)) squares (λ i j cell. square_named vertices level r i j listed (inside i j cell)))
  where
    squares : Region
    squares = record { x0 = x0; y0 = y0; x1 = x1 -ℤ pos 1; y1 = y1 -ℤ pos 1 }

    last : (i x : ℤ) → i ≤ℤ (x -ℤ pos 1) → (i +ℤ pos 1) ≤ℤ x
    last i x h = omega (arith, ints)

    inside : (i j : ℤ) → Lies squares i j → HasSquare r i j
    inside i j cell =
        let east : (i +ℤ pos 1) ≤ℤ x1 = last i x1 cell.east in
        let south : (j +ℤ pos 1) ≤ℤ y1 = last j y1 cell.south in
        let west : x0 ≤ℤ i = cell.west in
        let north : y0 ≤ℤ j = cell.north in
        record { west = omega (arith, ints); east = omega (arith, ints); north = omega (arith, ints); south = omega (arith, ints) }

-- the square parts of a region round its hole
ring_named : (vertices : List Vertex) (level : ℕ) (gap active : Region) → IsListed vertices level active → HasCell gap → Within active gap →
    All (IsNamed vertices)
    (square_part vertices level North (squares_in (corners_at active.x0 active.y0 active.x1 gap.y0))
    ∷ square_part vertices level West (squares_in (corners_at active.x0 gap.y0 gap.x0 gap.y1))
    ∷ square_part vertices level East (squares_in (corners_at gap.x1 gap.y0 active.x1 gap.y1))
    ∷ square_part vertices level South (squares_in (corners_at active.x0 gap.y1 active.x1 active.y1))
    ∷ [])
ring_named vertices level gap active listed some w =
    let P = IsNamed vertices in
    let n = square_part vertices level North (squares_in (corners_at active.x0 active.y0 active.x1 gap.y0)) in
    let w' = square_part vertices level West (squares_in (corners_at active.x0 gap.y0 gap.x0 gap.y1)) in
    let e = square_part vertices level East (squares_in (corners_at gap.x1 gap.y0 active.x1 gap.y1)) in
    let s = square_part vertices level South (squares_in (corners_at active.x0 gap.y1 active.x1 active.y1)) in
    let n_named : P n = part_named vertices level North active active.x0 active.x1 active.y0 gap.y0 listed (record { west = omega (arith, ints); east = omega (arith, ints); north = omega (arith, ints); south = omega (arith, ints) }) in
    let w_named : P w' = part_named vertices level West active active.x0 gap.x0 gap.y0 gap.y1 listed (record { west = omega (arith, ints); east = omega (arith, ints); north = omega (arith, ints); south = omega (arith, ints) }) in
    let e_named : P e = part_named vertices level East active gap.x1 active.x1 gap.y0 gap.y1 listed (record { west = omega (arith, ints); east = omega (arith, ints); north = omega (arith, ints); south = omega (arith, ints) }) in
    let s_named : P s = part_named vertices level South active active.x0 active.x1 gap.y1 active.y1 listed (record { west = omega (arith, ints); east = omega (arith, ints); north = omega (arith, ints); south = omega (arith, ints) }) in
    All-cons P n (w' ∷ e ∷ s ∷ []) n_named (All-cons P w' (e ∷ s ∷ []) w_named (All-cons P e (s ∷ []) e_named (All-cons P s [] s_named (All-nil P))))

squares_named : (vertices : List Vertex) (level e : ℕ) (finer active : Region) → IsListed vertices level active → IsInner e finer active → All (IsNamed vertices) (square_parts vertices level finer active)
unfolding square_parts
squares_named vertices level e finer active listed inner =
    elim (cases_Bool (is_empty active)) [
      | inl none ↦ rw none (All-nil P)
      | inr some ↦ elim (cases_Bool (is_empty (hole finer))) [
        | inl closed ↦ rw (some, closed) (All-cons P whole [] (part_named vertices level Whole active active.x0 active.x1 active.y0 active.y1 listed lines) (All-nil P))
        | inr open' ↦ rw (some, open') (ring_named vertices level (hole finer) active listed (has_cell (hole finer) open') (hole_within e finer active inner (has_cell (hole finer) open')))
      ]
    ]
  where
    P : PartTriangles → Type 0
    P part = IsNamed vertices part

    whole : PartTriangles
    whole = square_part vertices level Whole (squares_in active)

    lines : Lines active active.x0 active.x1 active.y0 active.y1
    lines = record { west = omega (arith, ints); east = omega (arith, ints); north = omega (arith, ints); south = omega (arith, ints) }

all_squares_named : (vertices : List Vertex) (level e : ℕ) (finer : Region) (actives : List Region) → AreListed vertices level actives → AreNested e (finer ∷ actives) → All (IsNamed vertices) (square_parts_from vertices level finer actives)
all_squares_named vertices level e finer [] listed nested = All-nil (IsNamed vertices)
all_squares_named vertices level e finer (active ∷ coarser) listed nested =
    All-append (IsNamed vertices) (square_parts vertices level finer active) (square_parts_from vertices (level + 1) active coarser)
    (squares_named vertices level e finer active listed.0 nested.0)
    (all_squares_named vertices (level + 1) e active coarser listed.1 nested.1)

-- ---- stitches
walk_named : (count p : ℕ) (walk : List ℕ) → p < count → Below count walk → NameVertices count (stitches_from p walk)
walk_named count p [] hp h = All-nil (Below count)
walk_named count p (m ∷ []) hp h = All-nil (Below count)
walk_named count p (m ∷ (q ∷ walk)) hp h =
    let B : ℕ → Type 0 = λ place. place < count in
    let hm : m < count = All-head B m (q ∷ walk) h in
    let tail : Below count (q ∷ walk) = All-tail B m (q ∷ walk) h in
    let hq : q < count = All-head B q walk tail in
    All-cons (Below count) (p ∷ m ∷ q ∷ []) (stitches_from q walk) (all_three count p m q hp hm hq) (walk_named count q walk hq (All-tail B q walk tail))

along_named : (count : ℕ) (walk : List ℕ) → Below count walk → NameVertices count (stitches_along walk)
along_named count [] h = All-nil (Below count)
along_named count (p ∷ walk) h =
    walk_named count p walk (All-head (λ place. place < count) p walk h) (All-tail (λ place. place < count) p walk h)

all_reversed : (P : ℕ → Type 0) (xs : List ℕ) → All P xs → All P (reverse xs)
all_reversed P xs h k d low =
    let below : k < length xs = omega (arith, length-reverse xs) in
    subst P (sym (get_or-reverse xs k d below)) (h (length xs - 1 - k) d (omega arith))

row_below : (vertices : List Vertex) (level : ℕ) (r : Region) (j : ℤ) → IsListed vertices level r → r.y0 ≤ℤ j → j ≤ℤ r.y1 → Below (length vertices) (places_in_row vertices level r j)
unfolding places_in_row columns
row_below vertices level r j listed north south =
    All-map (λ place. place < length vertices) (λ i. corner_place vertices level i j) (numbers_from r.x0 (columns r))
    (all_between (λ i. HasCorner vertices level i j) r.x0 r.x1 (λ i west east. listed.at i j (record { west = west; east = east; north = north; south = south })))

column_below : (vertices : List Vertex) (level : ℕ) (r : Region) (i : ℤ) → IsListed vertices level r → r.x0 ≤ℤ i → i ≤ℤ r.x1 → Below (length vertices) (places_in_column vertices level r i)
unfolding places_in_column rows
column_below vertices level r i listed west east =
    All-map (λ place. place < length vertices) (λ j. corner_place vertices level i j) (numbers_from r.y0 (rows r))
    (all_between (λ j. HasCorner vertices level i j) r.y0 r.y1 (λ j north south. listed.at i j (record { west = west; east = east; north = north; south = south })))

stitches_named : (vertices : List Vertex) (level : ℕ) (active : Region) → IsListed vertices level active → All (IsNamed vertices) (stitch_parts vertices level active)
unfolding stitch_parts stitch_part
stitches_named vertices level active listed =
    elim (cases_Bool (is_empty active)) [
      | inl none ↦ rw none (All-nil P)
      | inr some ↦ rw some (border (has_cell active some))
    ]
  where
    P : PartTriangles → Type 0
    P part = IsNamed vertices part

    B : ℕ → Type 0
    B place = place < length vertices

    border : HasCell active → All P
        (stitch_part level StitchNorth (places_in_row vertices level active active.y0)
        ∷ stitch_part level StitchEast (places_in_column vertices level active active.x1)
        ∷ stitch_part level StitchSouth (reverse (places_in_row vertices level active active.y1))
        ∷ stitch_part level StitchWest (reverse (places_in_column vertices level active active.x0))
        ∷ [])
    border cell =
        let n = places_in_row vertices level active active.y0 in
        let e = places_in_column vertices level active active.x1 in
        let s = places_in_row vertices level active active.y1 in
        let w = places_in_column vertices level active active.x0 in
        let n_below : All B n = row_below vertices level active active.y0 listed (omega (arith, ints)) cell.along in
        let e_below : All B e = column_below vertices level active active.x1 listed cell.across (omega (arith, ints)) in
        let s_below : All B s = row_below vertices level active active.y1 listed cell.along (omega (arith, ints)) in
        let w_below : All B w = column_below vertices level active active.x0 listed (omega (arith, ints)) cell.across in
        let part = λ (kind : PartKind) (walk : List ℕ). stitch_part level kind walk in
        All-cons P (part StitchNorth n) (part StitchEast e ∷ part StitchSouth (reverse s) ∷ part StitchWest (reverse w) ∷ []) (along_named (length vertices) n n_below)
        (All-cons P (part StitchEast e) (part StitchSouth (reverse s) ∷ part StitchWest (reverse w) ∷ []) (along_named (length vertices) e e_below)
        (All-cons P (part StitchSouth (reverse s)) (part StitchWest (reverse w) ∷ []) (along_named (length vertices) (reverse s) (all_reversed B s s_below))
        (All-cons P (part StitchWest (reverse w)) [] (along_named (length vertices) (reverse w) (all_reversed B w w_below)) (All-nil P))))

stitches_named_from : (vertices : List Vertex) (level : ℕ) (active : Region) (coarser : List Region) → AreListed vertices level (active ∷ coarser) → All (IsNamed vertices) (stitch_parts_from vertices level active coarser)
stitches_named_from vertices level active [] listed = All-nil (IsNamed vertices)
stitches_named_from vertices level active (next ∷ coarser) listed =
    All-append (IsNamed vertices) (stitch_parts vertices level active) (stitch_parts_from vertices (level + 1) next coarser)
    (stitches_named vertices level active listed.0) (stitches_named_from vertices (level + 1) next coarser listed.1)

all_stitches_named : (vertices : List Vertex) (actives : List Region) → AreListed vertices 0 actives → All (IsNamed vertices) (all_stitch_parts vertices actives)
all_stitches_named vertices [] listed = All-nil (IsNamed vertices)
all_stitches_named vertices (active ∷ coarser) listed = stitches_named_from vertices 0 active coarser listed

-- ---- the mesh
-- the empty region lies in any other, so that it may stand before the finest
pub from_nothing : (e : ℕ) (actives : List Region) → AreNested e actives → AreNested e (empty_region ∷ actives)
from_nothing e [] nested = tt
from_nothing e (active ∷ coarser) nested =
    ((λ (some : is_empty empty_region ≡ false). none_in _ empty_region empty_is_empty (has_cell empty_region some)), nested)

pub names : (terrain : Terrain) (k e : ℕ) (actives : List Region) → AllEvenOrEmpty actives → AreNested e actives → NameVertices (length (mesh terrain k actives).vertices) (mesh terrain k actives).triangles
unfolding mesh mesh_of_parts parts_of_regions
names terrain k e actives shapes nested =
    let vertices = mesh_vertices terrain k actives in
    let listed : AreListed vertices 0 actives = actives_listed terrain k actives shapes in
    all_flat_map (Below (length vertices)) (λ part. part.triangles) (square_parts_from vertices 0 empty_region actives ++ all_stitch_parts vertices actives)
    (All-append (IsNamed vertices) (square_parts_from vertices 0 empty_region actives) (all_stitch_parts vertices actives)
    (all_squares_named vertices 0 e empty_region actives listed (from_nothing e actives nested))
    (all_stitches_named vertices actives listed))
