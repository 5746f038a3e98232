-- How many vertices and triangles nested regions have: each level's are those of a rectangle without a smaller one.
use Rattle.std.proofs.Common.{◌≡◌, ℕ, zero, suc, ◌+◌, ◌-◌, ◌*◌, ◌%◌, ◌<◌, ◌≤◌, Bool, true, false, not, cond, ◌&&◌, List, [], ◌∷◌, ◌++◌, reverse, ℤ, pos, ◌+ℤ◌, ◌-ℤ◌, ◌*ℤ◌, ◌≤ℤ◌, ◌<ℤ◌, length, map, refl, ap, sym, ◌∙◌, inl, inr, ◌⊎◌, arith, length-append}
use Rattle.std.specs.List.{flat_map, count_by, range_with_len}
use Rattle.std.specs.Int.{int_gap}
use Rattle.std.proofs.lemmas.Int.{ints}
use Rattle.std.proofs.lemmas.Bool.{cases_Bool, cases_eq, and_left, and_right, and_from, or_cases}
use Rattle.std.proofs.lemmas.List.{length-map, length-reverse}
use Rattle.std.proofs.lemmas.List.Concat.{flat_map-append}
use Rattle.std.proofs.lemmas.List.Sums.{sum_by-append, length-filter}
use Rattle.std.proofs.lemmas.List.Filters.{length-filter_both}
use lib.Signed.{lt_z, le_z}
use Rattle.clip_regions.specs.declared.region.Region.{Region}
use Rattle.clip_regions.specs.FloorDivision.{floor_div, floor_rem}
use Rattle.clip_regions.specs.Regions.{contains, is_empty, empty_region, columns, rows, area, cells, numbers_from, HasEvenCorners}
use Rattle.plan_model.specs.Laws.{IsEvenOrEmpty, AllEvenOrEmpty, AreNested}
use Rattle.terrain_model.specs.Terrain.{Terrain}
use Rattle.mesh_model.specs.declared.shapes.Vertex.{Vertex}
use Rattle.mesh_model.specs.declared.shapes.PartKind.{PartKind}
use Rattle.mesh_model.specs.declared.shapes.PartKind.TheVariants.{Whole, North, West, East, South, StitchNorth, StitchEast, StitchSouth, StitchWest}
use Rattle.mesh_model.specs.Vertices.{LevelCell, hole, cells_outside, listed_from, listed_vertices, vertex_at, mesh_vertices}
use Rattle.mesh_model.specs.Parts.{PartTriangles, corner_place, square_triangles, corners_at, squares_in, square_part, square_parts, stitches_from, stitches_along, places_in_row, places_in_column, stitch_part, stitch_parts, square_parts_from, stitch_parts_from, all_stitch_parts, parts_of_regions}
use Rattle.mesh_model.specs.Mesh.{mesh, mesh_of_parts}
use Rattle.mesh_model.specs.Nested.{vertex_count, square_count, ring_count, border_count, stitch_count, all_stitch_count}
use Rattle.mesh_model.proofs.Rectangles.{IsInner, hole_within, half_and_rest, none_there, not_le_tested}
use Rattle.clip_regions.proofs.Gaps.{gap_by}
use Rattle.mesh_model.proofs.Named.{from_nothing}
use Rattle.clip_regions.proofs.Cells.{HasCell, has_cell, Within, le_tested, tested_lt}
use Rattle.plan_model.proofs.ActiveLaws.{even_if_cell}
use Rattle.clip_regions.proofs.Sizes.{no_area, length_numbers}
use Rattle.plan_model.proofs.CoverLaws.{count_cons, one_and, one_if}

-- ---- counts
pub count_append : {X : Type 0} (p : X → Bool) (xs ys : List X) → count_by p (xs ++ ys) ≡ count_by p xs + count_by p ys
count_append p xs ys = sum_by-append (λ y. cond (p y) 1 0) xs ys

-- a test of columns and one of rows, over a row of cells and over rows of cells
both_pass : (ℤ → Bool) → (ℤ → Bool) → ℤ × ℤ → Bool
both_pass p q cell = p cell.0 && q cell.1

count_row : (p q : ℤ → Bool) (j : ℤ) (is : List ℤ) → count_by (both_pass p q) (map (λ i. (i, j)) is) ≡ one_if (q j) * count_by p is
unfolding both_pass
count_row p q j [] = omega arith
count_row p q j (i ∷ is) =
    let here = count_cons (both_pass p q) (i, j) (map (λ i'. (i', j)) is) in
    let product : one_if (p i && q j) ≡ one_if (p i) * one_if (q j) = one_and (p i) (q j) in
    let columns' = count_cons p i is in
    let scaled : one_if (q j) * count_by p (i ∷ is) ≡ one_if (q j) * (one_if (p i) + count_by p is) = ap (λ n. one_if (q j) * n) columns' in
    let rest = count_row p q j is in
    omega (arith, here, product, scaled, rest)

count_rows : (p q : ℤ → Bool) (is js : List ℤ) → count_by (both_pass p q) (flat_map (λ j. map (λ i. (i, j)) is) js) ≡ count_by q js * count_by p is
count_rows p q is [] = omega arith
count_rows p q is (j ∷ js) =
    let parts = count_append (both_pass p q) (map (λ i. (i, j)) is) (flat_map (λ j'. map (λ i. (i, j')) is) js) in
    let first = count_row p q j is in
    let rest = count_rows p q is js in
    let scaled : count_by q (j ∷ js) * count_by p is ≡ (one_if (q j) + count_by q js) * count_by p is = ap (λ n. n * count_by p is) (count_cons q j js) in
    omega (arith, parts, first, rest, scaled)

-- ---- numbers that pass from place a to below place b
record IsStretch (p : ℕ → Bool) (a b : ℕ) : Type 0 where
  before : (u : ℕ) → u < a → p u ≡ false
  inside : (u : ℕ) → a ≤ u → u < b → p u ≡ true
  after : (u : ℕ) → b ≤ u → p u ≡ false

count_step : (p : ℤ → Bool) (f : ℕ → ℤ) (s n : ℕ) (b : Bool) → p (f s) ≡ b → count_by p (map f (range_with_len s (suc n))) ≡ one_if b + count_by p (map f (range_with_len (s + 1) n))
count_step p f s n b e = count_cons p (f s) (map f (range_with_len (s + 1) n)) ∙ ap (λ t. one_if t + count_by p (map f (range_with_len (s + 1) n))) e

count_after : (p : ℤ → Bool) (f : ℕ → ℤ) (a b s n : ℕ) → IsStretch (λ u. p (f u)) a b → b ≤ s → count_by p (map f (range_with_len s n)) ≡ 0
count_after p f a b s zero is past = refl
count_after p f a b s (suc n) is past =
    let here = count_step p f s n false (is.after s past) in
    let rest = count_after p f a b (s + 1) n is (omega arith) in
    omega (arith, here, rest)

count_inside : (p : ℤ → Bool) (f : ℕ → ℤ) (a b s n : ℕ) → IsStretch (λ u. p (f u)) a b → a ≤ s → s ≤ b → b ≤ s + n → count_by p (map f (range_with_len s n)) + s ≡ b
count_inside p f a b s zero is low high reach = omega arith
count_inside p f a b s (suc n) is low high reach =
    elim (cases_eq s b) [
      | inl e ↦ let none = count_after p f a b s (suc n) is (omega arith) in omega (arith, none)
      | inr other ↦ let here = count_step p f s n true (is.inside s low (omega arith)) in let rest = count_inside p f a b (s + 1) n is (omega arith) (omega arith) (omega arith) in omega (arith, here, rest)
    ]

count_stretch : (p : ℤ → Bool) (f : ℕ → ℤ) (a b s n : ℕ) → IsStretch (λ u. p (f u)) a b → s ≤ a → a ≤ b → b ≤ s + n → count_by p (map f (range_with_len s n)) + a ≡ b
count_stretch p f a b s zero is low order reach = omega arith
count_stretch p f a b s (suc n) is low order reach =
    elim (cases_eq s a) [
      | inl e ↦ let whole = count_inside p f a b s (suc n) is (omega arith) (omega arith) reach in omega (arith, whole)
      | inr other ↦ let here = count_step p f s n false (is.before s (omega arith)) in let rest = count_stretch p f a b (s + 1) n is (omega arith) order (omega arith) in omega (arith, here, rest)
    ]

-- the numbers from g to h among those from a to b
abbrev is_between : ℤ → ℤ → ℤ → Bool
is_between g h i = le_z g i && le_z i h

stretch : (a g h : ℤ) → a ≤ℤ g → g ≤ℤ h → IsStretch (λ u. is_between g h (a +ℤ pos u)) (int_gap a g) (int_gap a (h +ℤ pos 1))
stretch a g h low order =
    let west = gap_by a g in
    let east = gap_by a (h +ℤ pos 1) in
    record {
      before = λ u below. and_left (le_z g (a +ℤ pos u)) (le_z (a +ℤ pos u) h) (not_le_tested g (a +ℤ pos u) (omega (arith, ints, west)));
      inside = λ u from to. and_from (le_z g (a +ℤ pos u)) (le_z (a +ℤ pos u) h) (le_tested g (a +ℤ pos u) (omega (arith, ints, west))) (le_tested (a +ℤ pos u) h (omega (arith, ints, east)));
      after = λ u past. and_right (le_z g (a +ℤ pos u)) (le_z (a +ℤ pos u) h) (not_le_tested (a +ℤ pos u) h (omega (arith, ints, east)));
    }

count_between : (a b g h : ℤ) → a ≤ℤ g → g ≤ℤ h → h ≤ℤ b → count_by (is_between g h) (numbers_from a (int_gap a (b +ℤ pos 1))) ≡ int_gap g (h +ℤ pos 1)
count_between a b g h low order high =
    let west = gap_by a g in
    let east = gap_by a (h +ℤ pos 1) in
    let whole = gap_by a (b +ℤ pos 1) in
    let inner = gap_by g (h +ℤ pos 1) in
    let count = count_stretch (is_between g h) (λ u. a +ℤ pos u) (int_gap a g) (int_gap a (h +ℤ pos 1)) 0 (int_gap a (b +ℤ pos 1)) (stretch a g h low order) (omega arith) (omega (arith, ints)) (omega (arith, ints)) in
    omega (arith, ints, count)

-- ---- cells
count_contained : (a g : Region) → HasCell g → Within a g → count_by (λ cell. contains g cell.0 cell.1) (cells a) ≡ area g
unfolding contains area columns rows both_pass
count_contained a g some w =
    let all = count_rows (is_between g.x0 g.x1) (is_between g.y0 g.y1) (numbers_from a.x0 (columns a)) (numbers_from a.y0 (rows a)) in
    let across = count_between a.x0 a.x1 g.x0 g.x1 w.west some.across w.east in
    let along = count_between a.y0 a.y1 g.y0 g.y1 w.north some.along w.south in
    all ∙ (λ t. along t * across t) ∙ swapped (rows g) (columns g)
  where
    swapped : (m n : ℕ) → m * n ≡ n * m
    swapped m n = omega arith

length_rows : (is js : List ℤ) → length {A = ℤ × ℤ} (flat_map (λ (j : ℤ). map (λ (i : ℤ). (i, j)) is) js) ≡ length is * length js
length_rows is [] = omega arith
length_rows is (j ∷ js) =
    let parts = length-append {A = ℤ × ℤ} (map (λ (i : ℤ). (i, j)) is) (flat_map (λ (j' : ℤ). map (λ (i : ℤ). (i, j')) is) js) in
    let row : length {A = ℤ × ℤ} (map (λ (i : ℤ). (i, j)) is) ≡ length is = length-map {B = ℤ × ℤ} is (λ (i : ℤ). (i, j)) in
    let rest = length_rows is js in
    omega (arith, parts, row, rest)

length_cells : (r : Region) → length (cells r) ≡ area r
unfolding area
length_cells r =
    length_rows (numbers_from r.x0 (columns r)) (numbers_from r.y0 (rows r))
    ∙ (λ t. length_numbers r.x0 (columns r) t * length_numbers r.y0 (rows r) t)

-- ---- a region without cells
no_gap : (a b : ℤ) → b <ℤ a → int_gap a (b +ℤ pos 1) ≡ 0
no_gap a b h = let gap = gap_by a (b +ℤ pos 1) in omega (arith, ints)

empty_counts : (r : Region) → is_empty r ≡ true → (columns r ≡ 0) ⊎ (rows r ≡ 0)
unfolding is_empty columns rows
empty_counts r e =
    elim (or_cases (lt_z r.x1 r.x0) (lt_z r.y1 r.y0) e) [
      | inl h ↦ inl (no_gap r.x0 r.x1 (tested_lt r.x1 r.x0 h))
      | inr h ↦ inr (no_gap r.y0 r.y1 (tested_lt r.y1 r.y0 h))
    ]

no_squares : (r : Region) → is_empty r ≡ true → square_count r ≡ 0
unfolding square_count
no_squares r e =
    elim (empty_counts r e) [
      | inl h ↦ let product : (columns r - 1) * (rows r - 1) ≡ (0 - 1) * (rows r - 1) = ap (λ n. (n - 1) * (rows r - 1)) h in omega (arith, product)
      | inr h ↦ let product : (columns r - 1) * (rows r - 1) ≡ (columns r - 1) * (0 - 1) = ap (λ n. (columns r - 1) * (n - 1)) h in omega (arith, product)
    ]

-- ---- vertices
none_counted : (g : Region) → is_empty g ≡ true → (xs : List (ℤ × ℤ)) → count_by (λ cell. contains g cell.0 cell.1) xs ≡ 0
none_counted g e [] = refl
none_counted g e (x ∷ xs) =
    let here = count_cons (λ cell. contains g cell.0 cell.1) x xs in
    let test : one_if (contains g x.0 x.1) ≡ 0 = ap one_if (none_there g x.0 x.1 e) in
    let rest = none_counted g e xs in
    omega (arith, here, test, rest)

cells_in_hole : (e : ℕ) (finer active : Region) → IsInner e finer active → count_by (λ cell. contains (hole finer) cell.0 cell.1) (cells active) ≡ area (hole finer)
cells_in_hole e finer active inner =
    elim (cases_Bool (is_empty (hole finer))) [
      | inl closed ↦ none_counted (hole finer) closed (cells active) ∙ sym (no_area (hole finer) closed)
      | inr open' ↦ let some : HasCell (hole finer) = has_cell (hole finer) open' in count_contained active (hole finer) some (hole_within e finer active inner some)
    ]

length_outside : (e : ℕ) (finer active : Region) → IsInner e finer active → length (cells_outside finer active) ≡ area active - area (hole finer)
unfolding cells_outside
length_outside e finer active inner =
    let within' : ℤ × ℤ → Bool = λ cell. contains (hole finer) cell.0 cell.1 in
    let outside : ℤ × ℤ → Bool = λ cell. not (contains (hole finer) cell.0 cell.1) in
    let both = length-filter_both within' outside (λ cell. refl) (cells active) in
    let whole = length_cells active in
    let inside = length-filter within' (cells active) ∙ cells_in_hole e finer active inner in
    omega (arith, both, whole, inside)

length_listed : (level e : ℕ) (finer : Region) (actives : List Region) → AreNested e (finer ∷ actives) → length (listed_from level finer actives) ≡ vertex_count finer actives
length_listed level e finer [] nested = refl
length_listed level e finer (active ∷ coarser) nested =
    let named : ℤ × ℤ → LevelCell = λ cell. record { level = level; i = cell.0; j = cell.1 } in
    let parts = length-append (map named (cells_outside finer active)) (listed_from (level + 1) active coarser) in
    let own = length-map (cells_outside finer active) named in
    let here = length_outside e finer active nested.0 in
    let rest = length_listed (level + 1) e active coarser nested.1 in
    omega (arith, parts, own, here, rest)

pub nested_vertices : (terrain : Terrain) (k e : ℕ) (actives : List Region) → AreNested e actives → length (mesh terrain k actives).vertices ≡ vertex_count empty_region actives
unfolding mesh mesh_of_parts mesh_vertices
nested_vertices terrain k e actives nested =
    length-map (listed_vertices actives) (vertex_at terrain k actives) ∙ length_listed 0 e empty_region actives (from_nothing e actives nested)

-- ---- triangles
abbrev triangles_in : List PartTriangles → ℕ
triangles_in parts = length (flat_map (λ part. part.triangles) parts)

length_each : {A B : Type 0} (f : A → List B) (m : ℕ) → ((x : A) → length (f x) ≡ m) → (xs : List A) → length (flat_map f xs) ≡ m * length xs
length_each f m h [] = omega arith
length_each f m h (x ∷ xs) = omega (arith, length-append (f x) (flat_map f xs), h x, length_each f m h xs)

two_triangles : (vertices : List Vertex) (level : ℕ) (i j : ℤ) → length (square_triangles vertices level i j) ≡ 2
unfolding square_triangles
two_triangles vertices level i j = refl

back : (x : ℤ) → x -ℤ pos 1 +ℤ pos 1 ≡ x
back x = omega (arith, ints)

pub part_length : (vertices : List Vertex) (level : ℕ) (kind : PartKind) (x0 x1 y0 y1 : ℤ) → length (square_part vertices level kind (squares_in (corners_at x0 y0 x1 y1))).triangles ≡ 2 * (int_gap x0 x1 * int_gap y0 y1)
unfolding square_part squares_in area columns rows
part_length vertices level kind x0 x1 y0 y1 =
    let squares : Region = record { x0 = x0; y0 = y0; x1 = x1 -ℤ pos 1; y1 = y1 -ℤ pos 1 } in
    length_each (λ cell. square_triangles vertices level cell.0 cell.1) 2 (λ cell. two_triangles vertices level cell.0 cell.1) (cells squares)
    ∙ ap (λ n. 2 * n) (length_cells squares)
    ∙ (λ t. 2 * (int_gap x0 (back x1 t) * int_gap y0 (back y1 t)))

-- a rectangle of a + b + c columns and d + e + f rows without its middle
around : (w h a b c d e f : ℕ) → a + b + c ≡ w → d + e + f ≡ h → 2 * (w * d) + (2 * (a * e) + (2 * (c * e) + 2 * (w * f))) ≡ 2 * (w * h - b * e)
around w h a b c d e f across along =
    let rows' : w * (d + e + f) ≡ w * h = ap (λ n. w * n) along in
    let middle : (a + b + c) * e ≡ w * e = ap (λ n. n * e) across in
    omega (arith, rows', middle)

-- the length of one more part
part_more : (part : PartTriangles) (parts : List PartTriangles) → triangles_in (part ∷ parts) ≡ length part.triangles + triangles_in parts
part_more part parts = length-append part.triangles (flat_map (λ p. p.triangles) parts)

split_gap : (a g h b : ℤ) → a ≤ℤ g → g ≤ℤ h → h ≤ℤ b → int_gap a g + int_gap g h + int_gap h b ≡ int_gap a b
split_gap a g h b low order high = omega (arith, ints, gap_by a g, gap_by g h, gap_by h b, gap_by a b)

-- the squares between the ends of a region
squares_are : (r : Region) → square_count r ≡ int_gap r.x0 r.x1 * int_gap r.y0 r.y1
unfolding square_count columns rows
squares_are r = λ t. sym (one_less r.x0 r.x1) t * sym (one_less r.y0 r.y1) t
  where
    one_less : (a b : ℤ) → int_gap a b ≡ int_gap a (b +ℤ pos 1) - 1
    one_less a b = omega (arith, ints, gap_by a b, gap_by a (b +ℤ pos 1))

ring_length : (vertices : List Vertex) (level : ℕ) (gap active : Region) → HasCell gap → Within active gap →
    triangles_in
    (square_part vertices level North (squares_in (corners_at active.x0 active.y0 active.x1 gap.y0))
    ∷ square_part vertices level West (squares_in (corners_at active.x0 gap.y0 gap.x0 gap.y1))
    ∷ square_part vertices level East (squares_in (corners_at gap.x1 gap.y0 active.x1 gap.y1))
    ∷ square_part vertices level South (squares_in (corners_at active.x0 gap.y1 active.x1 active.y1))
    ∷ [])
    ≡ 2 * (square_count active - square_count gap)
ring_length vertices level gap active some w =
    let n = square_part vertices level North (squares_in (corners_at active.x0 active.y0 active.x1 gap.y0)) in
    let w' = square_part vertices level West (squares_in (corners_at active.x0 gap.y0 gap.x0 gap.y1)) in
    let e = square_part vertices level East (squares_in (corners_at gap.x1 gap.y0 active.x1 gap.y1)) in
    let s = square_part vertices level South (squares_in (corners_at active.x0 gap.y1 active.x1 active.y1)) in
    let n_more = part_more n (w' ∷ e ∷ s ∷ []) in
    let w_more = part_more w' (e ∷ s ∷ []) in
    let e_more = part_more e (s ∷ []) in
    let s_more = part_more s [] in
    let n_length = part_length vertices level North active.x0 active.x1 active.y0 gap.y0 in
    let w_length = part_length vertices level West active.x0 gap.x0 gap.y0 gap.y1 in
    let e_length = part_length vertices level East gap.x1 active.x1 gap.y0 gap.y1 in
    let s_length = part_length vertices level South active.x0 active.x1 gap.y1 active.y1 in
    let across = split_gap active.x0 gap.x0 gap.x1 active.x1 w.west some.across w.east in
    let along = split_gap active.y0 gap.y0 gap.y1 active.y1 w.north some.along w.south in
    let whole = around (int_gap active.x0 active.x1) (int_gap active.y0 active.y1) (int_gap active.x0 gap.x0) (int_gap gap.x0 gap.x1) (int_gap gap.x1 active.x1) (int_gap active.y0 gap.y0) (int_gap gap.y0 gap.y1) (int_gap gap.y1 active.y1) across along in
    let outer = squares_are active in
    let inner = squares_are gap in
    omega (arith, n_more, w_more, e_more, s_more, n_length, w_length, e_length, s_length, whole, outer, inner)

squares_length : (vertices : List Vertex) (level e : ℕ) (finer active : Region) → IsInner e finer active → triangles_in (square_parts vertices level finer active) ≡ 2 * (square_count active - square_count (hole finer))
unfolding square_parts
squares_length vertices level e finer active inner =
    elim (cases_Bool (is_empty active)) [
      | inl none ↦ let nothing = no_squares active none in rw none (omega (arith, nothing))
      | inr some ↦ elim (cases_Bool (is_empty (hole finer))) [
        | inl closed ↦ rw (some, closed) (whole closed)
        | inr open' ↦ rw (some, open') (ring_length vertices level (hole finer) active (has_cell (hole finer) open') (hole_within e finer active inner (has_cell (hole finer) open')))
      ]
    ]
  where
    whole : is_empty (hole finer) ≡ true → triangles_in (square_part vertices level Whole (squares_in active) ∷ []) ≡ 2 * (square_count active - square_count (hole finer))
    whole closed =
        let more = part_more (square_part vertices level Whole (squares_in active)) [] in
        let own = part_length vertices level Whole active.x0 active.x1 active.y0 active.y1 in
        let outer = squares_are active in
        let nothing = no_squares (hole finer) closed in
        omega (arith, more, own, outer, nothing)

parts_append : (xs ys : List PartTriangles) → triangles_in (xs ++ ys) ≡ triangles_in xs + triangles_in ys
parts_append xs ys = ap length (flat_map-append (λ (part : PartTriangles). part.triangles) xs ys) ∙ length-append (flat_map (λ (part : PartTriangles). part.triangles) xs) (flat_map (λ (part : PartTriangles). part.triangles) ys)

all_squares_length : (vertices : List Vertex) (level e : ℕ) (finer : Region) (actives : List Region) → AreNested e (finer ∷ actives) → triangles_in (square_parts_from vertices level finer actives) ≡ 2 * ring_count finer actives
all_squares_length vertices level e finer [] nested = refl
all_squares_length vertices level e finer (active ∷ coarser) nested =
    let parts = parts_append (square_parts vertices level finer active) (square_parts_from vertices (level + 1) active coarser) in
    let here = squares_length vertices level e finer active nested.0 in
    let rest = all_squares_length vertices (level + 1) e active coarser nested.1 in
    omega (arith, parts, here, rest)

-- ---- stitches
walk_length : (p : ℕ) (walk : List ℕ) → 2 * length (stitches_from p walk) + length walk % 2 ≡ length walk
walk_length p [] = refl
walk_length p (m ∷ []) = refl
walk_length p (m ∷ (q ∷ walk)) = let rest = walk_length q walk in omega (arith, rest)

along_length : (walk : List ℕ) → length walk % 2 ≡ 1 → 2 * length (stitches_along walk) + 1 ≡ length walk
along_length [] odd = absurd (omega arith)
along_length (p ∷ walk) odd = let rest = walk_length p walk in omega (arith, rest)

pub row_length : (vertices : List Vertex) (level : ℕ) (r : Region) (j : ℤ) → length (places_in_row vertices level r j) ≡ columns r
unfolding places_in_row
row_length vertices level r j = length-map (numbers_from r.x0 (columns r)) (λ i. corner_place vertices level i j) ∙ length_numbers r.x0 (columns r)

pub column_length : (vertices : List Vertex) (level : ℕ) (r : Region) (i : ℤ) → length (places_in_column vertices level r i) ≡ rows r
unfolding places_in_column
column_length vertices level r i = length-map (numbers_from r.y0 (rows r)) (λ j. corner_place vertices level i j) ∙ length_numbers r.y0 (rows r)

pub odd_gap : (a b : ℤ) → floor_rem a 2 ≡ 0 → floor_rem b 2 ≡ 0 → a ≤ℤ b → int_gap a (b +ℤ pos 1) % 2 ≡ 1
odd_gap a b even_a even_b h =
    let wa : a ≡ pos 2 *ℤ floor_div a 2 +ℤ pos (floor_rem a 2) = half_and_rest a in
    let wb : b ≡ pos 2 *ℤ floor_div b 2 +ℤ pos (floor_rem b 2) = half_and_rest b in
    let gap = gap_by a (b +ℤ pos 1) in
    omega (arith, ints)

-- a side of an odd number of cells has half of them, rounded down, as stitches
pub side_length : (walk : List ℕ) (n : ℕ) → length walk ≡ n → n % 2 ≡ 1 → 2 * length (stitches_along walk) + 1 ≡ n
side_length walk n e odd = along_length walk (ap (λ m. m % 2) e ∙ odd) ∙ e

stitches_length : (vertices : List Vertex) (level : ℕ) (active : Region) → IsEvenOrEmpty active → triangles_in (stitch_parts vertices level active) ≡ border_count active
unfolding stitch_parts stitch_part border_count columns rows
stitches_length vertices level active shape =
    elim (cases_Bool (is_empty active)) [
      | inl none ↦ rw none refl
      | inr some ↦ rw some (border (has_cell active some))
    ]
  where
    border : HasCell active → triangles_in
        (stitch_part level StitchNorth (places_in_row vertices level active active.y0)
        ∷ stitch_part level StitchEast (places_in_column vertices level active active.x1)
        ∷ stitch_part level StitchSouth (reverse (places_in_row vertices level active active.y1))
        ∷ stitch_part level StitchWest (reverse (places_in_column vertices level active active.x0))
        ∷ []) ≡ (columns active - 1) + (rows active - 1)
    border cell =
        let even : HasEvenCorners active = even_if_cell active shape cell in
        let odd_columns : columns active % 2 ≡ 1 = odd_gap active.x0 active.x1 even.x0 even.x1 cell.across in
        let odd_rows : rows active % 2 ≡ 1 = odd_gap active.y0 active.y1 even.y0 even.y1 cell.along in
        let n = places_in_row vertices level active active.y0 in
        let e = places_in_column vertices level active active.x1 in
        let s = places_in_row vertices level active active.y1 in
        let w = places_in_column vertices level active active.x0 in
        let n_length = side_length n (columns active) (row_length vertices level active active.y0) odd_columns in
        let e_length = side_length e (rows active) (column_length vertices level active active.x1) odd_rows in
        let s_length = side_length (reverse s) (columns active) (length-reverse s ∙ row_length vertices level active active.y1) odd_columns in
        let w_length = side_length (reverse w) (rows active) (length-reverse w ∙ column_length vertices level active active.x0) odd_rows in
        let part = λ (kind : PartKind) (walk : List ℕ). stitch_part level kind walk in
        let n_more = part_more (part StitchNorth n) (part StitchEast e ∷ part StitchSouth (reverse s) ∷ part StitchWest (reverse w) ∷ []) in
        let e_more = part_more (part StitchEast e) (part StitchSouth (reverse s) ∷ part StitchWest (reverse w) ∷ []) in
        let s_more = part_more (part StitchSouth (reverse s)) (part StitchWest (reverse w) ∷ []) in
        let w_more = part_more (part StitchWest (reverse w)) [] in
        omega (arith, n_length, e_length, s_length, w_length, n_more, e_more, s_more, w_more)

stitches_length_from : (vertices : List Vertex) (level : ℕ) (active : Region) (coarser : List Region) → AllEvenOrEmpty (active ∷ coarser) → triangles_in (stitch_parts_from vertices level active coarser) ≡ stitch_count active coarser
stitches_length_from vertices level active [] shapes = refl
stitches_length_from vertices level active (next ∷ coarser) shapes =
    let parts = parts_append (stitch_parts vertices level active) (stitch_parts_from vertices (level + 1) next coarser) in
    let here = stitches_length vertices level active shapes.0 in
    let rest = stitches_length_from vertices (level + 1) next coarser shapes.1 in
    omega (arith, parts, here, rest)

all_stitches_length : (vertices : List Vertex) (actives : List Region) → AllEvenOrEmpty actives → triangles_in (all_stitch_parts vertices actives) ≡ all_stitch_count actives
all_stitches_length vertices [] shapes = refl
all_stitches_length vertices (active ∷ coarser) shapes = stitches_length_from vertices 0 active coarser shapes

pub nested_triangles : (terrain : Terrain) (k e : ℕ) (actives : List Region) → AllEvenOrEmpty actives → AreNested e actives →
    length (mesh terrain k actives).triangles ≡ 2 * ring_count empty_region actives + all_stitch_count actives
unfolding mesh mesh_of_parts parts_of_regions
nested_triangles terrain k e actives shapes nested =
    let vertices = mesh_vertices terrain k actives in
    parts_append (square_parts_from vertices 0 empty_region actives) (all_stitch_parts vertices actives)
    ∙ (λ t. all_squares_length vertices 0 e empty_region actives (from_nothing e actives nested) t + all_stitches_length vertices actives shapes t)
