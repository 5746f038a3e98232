-- Stitches are flat: the heights along the border of a finer level are those of the coarser one, with its means between them.
use Rattle.std.proofs.Common.{◌≡◌, ℕ, zero, suc, ◌+◌, ◌-◌, ◌*◌, ◌^◌, ◌<◌, ◌≤◌, true, false, ◌&&◌, List, [], ◌∷◌, ◌++◌, reverse, ℤ, pos, ◌+ℤ◌, ◌*ℤ◌, ◌≤ℤ◌, length, get_or, map, refl, ap, sym, subst, ◌∙◌, inl, inr, ◌⊎◌, arith, append_assoc, length-append, IsTrue, slice_index}
use Rattle.std.specs.List.{All, AllPairs, flat_map, range_with_len}
use Rattle.std.specs.Ordering.{int_eq}
use Rattle.std.specs.Int.{int_gap}
use Rattle.std.proofs.lemmas.Int.{ints, clamps}
use Rattle.std.proofs.lemmas.Bool.{cases_Bool, and_from, false_from_ne_true}
use Rattle.std.proofs.lemmas.Bool.Decides.{Decides-int_eq}
use Rattle.std.proofs.lemmas.List.{get_or-append-add, get_or-reverse, length-reverse}
use Rattle.std.proofs.lemmas.List.Elements.{All-nil, All-cons, All-append}
use Rattle.std.proofs.lemmas.List.FromFn.{length-map-range_with_len, get_or-map-range_with_len}
use Rattle.std.proofs.lemmas.Grind.{flat_map-append}
use borrow.Author.Differences.{up, down}
use Rattle.clip_regions.specs.declared.region.Region.{Region}
use Rattle.clip_regions.specs.FloorDivision.{floor_div, floor_rem}
use Rattle.clip_regions.specs.Regions.{contains, is_empty, empty_region, columns, rows, HasEvenCorners}
use Rattle.plan_model.specs.Limits.{IsSize}
use Rattle.plan_model.specs.Window.{margin}
use Rattle.plan_model.specs.Laws.{AreNested, AllEvenOrEmpty}
use Rattle.terrain_model.specs.Terrain.{Terrain, level_height}
use Rattle.active_region.specs.Active.{AreDrawn}
use Rattle.mesh_model.specs.declared.shapes.Vertex.{Vertex}
use Rattle.mesh_model.specs.Height.{border_distance, active_at, lower_end, upper_end}
use Rattle.mesh_model.specs.Nested.{StandApart}
use Rattle.mesh_model.specs.Laws.{VerticesApart, OwnPlaces}
use Rattle.mesh_model.specs.Vertices.{hole, vertex_at, mesh_vertices, listed_vertices, vertex_of_place}
use Rattle.mesh_model.specs.Parts.{PartTriangles, corner_place, stitches_from, stitches_along, places_in_row, places_in_column, stitch_part, stitch_parts, stitch_parts_from, all_stitch_parts}
use Rattle.mesh_model.specs.Watertight.{is_middle, StitchesAreFlat}
use Rattle.mesh_laws.proofs.Rectangles.{hole_deep}
use Rattle.clip_regions.proofs.Gaps.{gap_by}
use Rattle.mesh_laws.proofs.Borders.{OnSide, not_deep}
use Rattle.mesh_laws.proofs.Seams.{lower_of_twice, upper_of_twice, lower_of_next, upper_of_next, height_at_border}
use Rattle.mesh_laws.proofs.Standing.{IsListed, AreListed, vertex_there, all_listed}
use Rattle.mesh_laws.proofs.Places.{from_nothing}
use Rattle.clip_regions.proofs.Cells.{Lies, lies, HasCell, has_cell, cell_in, not_empty}
use Rattle.mesh_model.proofs.Rectangles.{half_and_rest, IsInner}
use Rattle.plan_model.proofs.ActiveLaws.{even_if_cell}
use Rattle.mesh_model.proofs.Ranges.{map_of_map}

plus_zero : (n : ℕ) → n + 0 ≡ n
plus_zero n = omega arith

-- ---- walks
-- twice a number, so that two steps are two steps
abbrev twice : ℕ → ℕ
twice zero = zero
twice (suc u) = suc (suc (twice u))

twice_is : (u : ℕ) → twice u ≡ 2 * u
twice_is zero = refl
twice_is (suc u) = omega (arith, twice_is u)

-- what is true of each two steps of a walk is true of its triangles
abbrev OfTriangle : (ℕ → ℕ → ℕ → Type 0) → List ℕ → Type 0
OfTriangle P triangle = P (slice_index triangle 0) (slice_index triangle 1) (slice_index triangle 2)

abbrev OfSteps : (ℕ → ℕ → ℕ → Type 0) → List ℕ → Type 0
OfSteps P walk =
    (u d : ℕ) → suc (suc (twice u)) < length walk → P (get_or walk (twice u) d) (get_or walk (suc (twice u)) d) (get_or walk (suc (suc (twice u))) d)

steps_from : (P : ℕ → ℕ → ℕ → Type 0) (p : ℕ) (walk : List ℕ) → OfSteps P (p ∷ walk) → All (OfTriangle P) (stitches_from p walk)
steps_from P p [] h = All-nil (OfTriangle P)
steps_from P p (m ∷ []) h = All-nil (OfTriangle P)
steps_from P p (m ∷ q ∷ walk) h =
    All-cons (OfTriangle P) (p ∷ m ∷ q ∷ []) (stitches_from q walk) (h 0 0 (omega arith))
    (steps_from P q walk (λ u d low. h (suc u) d (omega (arith, low))))

steps_along : (P : ℕ → ℕ → ℕ → Type 0) (walk : List ℕ) → OfSteps P walk → All (OfTriangle P) (stitches_along walk)
steps_along P [] h = All-nil (OfTriangle P)
steps_along P (p ∷ walk) h = steps_from P p walk h

moved : (P : ℕ → ℕ → ℕ → Type 0) (x x' y y' z z' : ℕ) → x' ≡ x → y' ≡ y → z' ≡ z → P x y z → P x' y' z'
moved P x x' y y' z z' ex ey ez h =
    subst (λ (n : ℕ). P n y' z') (sym ex) (subst (λ (n : ℕ). P x n z') (sym ey) (subst (λ (n : ℕ). P x y n) (sym ez) h))

-- a walk of an odd number of places, and the same the other way
line_steps : (P : ℕ → ℕ → ℕ → Type 0) (f : ℕ → ℕ) (n : ℕ) → ((u : ℕ) → u < n → P (f (2 * u)) (f (2 * u + 1)) (f (2 * u + 2))) →
    OfSteps P (map f (range_with_len 0 (2 * n + 1)))
line_steps P f n h u d low =
    let long = length-map-range_with_len f 0 (2 * n + 1) in
    let e : twice u ≡ 2 * u = twice_is u in
    let at = λ (v w : ℕ) (is : 0 + v ≡ w) (below : v < 2 * n + 1). get_or-map-range_with_len f 0 (2 * n + 1) v w d below is in
    let a : get_or (map f (range_with_len 0 (2 * n + 1))) (twice u) d ≡ f (2 * u) = at (twice u) (2 * u) (omega (arith, e)) (omega (arith, low, long)) in
    let b : get_or (map f (range_with_len 0 (2 * n + 1))) (suc (twice u)) d ≡ f (2 * u + 1) = at (suc (twice u)) (2 * u + 1) (omega (arith, e)) (omega (arith, low, long)) in
    let c : get_or (map f (range_with_len 0 (2 * n + 1))) (suc (suc (twice u))) d ≡ f (2 * u + 2) = at (suc (suc (twice u))) (2 * u + 2) (omega (arith, e)) (omega (arith, low, long)) in
    let low' : u < n = omega (arith, low, long, e) in
    moved P (f (2 * u)) (get_or (map f (range_with_len 0 (2 * n + 1))) (twice u) d) (f (2 * u + 1)) (get_or (map f (range_with_len 0 (2 * n + 1))) (suc (twice u)) d) (f (2 * u + 2)) (get_or (map f (range_with_len 0 (2 * n + 1))) (suc (suc (twice u))) d)
    a b c (h u low')

-- the walk back: its steps are those of the walk, last first
back_steps : (P : ℕ → ℕ → ℕ → Type 0) (f : ℕ → ℕ) (n : ℕ) → ((u : ℕ) → u < n → P (f (2 * u + 2)) (f (2 * u + 1)) (f (2 * u))) →
    OfSteps P (reverse (map f (range_with_len 0 (2 * n + 1))))
back_steps P f n h u d low =
    let walk = map f (range_with_len 0 (2 * n + 1)) in
    let long : length walk ≡ 2 * n + 1 = length-map-range_with_len f 0 (2 * n + 1) in
    let turned : length (reverse walk) ≡ length walk = length-reverse walk in
    let e : twice u ≡ 2 * u = twice_is u in
    let v = n - 1 - u in
    let low' : u < n = omega (arith, low, long, turned, e) in
    let at = λ (step w : ℕ) (is : 0 + (length walk - 1 - step) ≡ w) (below : step < length walk).
    get_or-reverse walk step d below ∙ get_or-map-range_with_len f 0 (2 * n + 1) (length walk - 1 - step) w d (omega (arith, below, long)) is in
    let a : get_or (reverse walk) (twice u) d ≡ f (2 * v + 2) = at (twice u) (2 * v + 2) (omega (arith, long, e, low')) (omega (arith, low, turned)) in
    let b : get_or (reverse walk) (suc (twice u)) d ≡ f (2 * v + 1) = at (suc (twice u)) (2 * v + 1) (omega (arith, long, e, low')) (omega (arith, low, turned)) in
    let c : get_or (reverse walk) (suc (suc (twice u))) d ≡ f (2 * v) = at (suc (suc (twice u))) (2 * v) (omega (arith, long, e, low')) (omega (arith, low, turned)) in
    moved P (f (2 * v + 2)) (get_or (reverse walk) (twice u) d) (f (2 * v + 1)) (get_or (reverse walk) (suc (twice u)) d) (f (2 * v)) (get_or (reverse walk) (suc (suc (twice u))) d) a b c (h v (omega (arith, low')))

-- ---- three vertices along a border
-- the three vertices of two steps are flat
abbrev IsFlat : List Vertex → ℕ → ℕ → ℕ → Type 0
IsFlat vertices p m q = IsTrue (is_middle (vertex_of_place vertices p) (vertex_of_place vertices m) (vertex_of_place vertices q))

-- from equations to the test
middle : (p m q : Vertex) → pos 2 *ℤ m.x ≡ p.x +ℤ q.x → pos 2 *ℤ m.z ≡ p.z +ℤ q.z → pos 2 *ℤ m.height ≡ p.height +ℤ q.height → is_middle p m q ≡ true
unfolding is_middle
middle p m q x z height =
    and_from (int_eq (pos 2 *ℤ m.x) (p.x +ℤ q.x) && int_eq (pos 2 *ℤ m.z) (p.z +ℤ q.z)) (int_eq (pos 2 *ℤ m.height) (p.height +ℤ q.height))
    (and_from (int_eq (pos 2 *ℤ m.x) (p.x +ℤ q.x)) (int_eq (pos 2 *ℤ m.z) (p.z +ℤ q.z)) ((Decides-int_eq (pos 2 *ℤ m.x) (p.x +ℤ q.x)).1 x) ((Decides-int_eq (pos 2 *ℤ m.z) (p.z +ℤ q.z)).1 z))
    ((Decides-int_eq (pos 2 *ℤ m.height) (p.height +ℤ q.height)).1 height)

-- the middle of two steps on an axis, and of none
middle_step : (c : ℤ) (n : ℕ) → pos 2 *ℤ ((pos 2 *ℤ c +ℤ pos 1) *ℤ pos n) ≡ (pos 2 *ℤ c) *ℤ pos n +ℤ (pos 2 *ℤ (c +ℤ pos 1)) *ℤ pos n
middle_step c n =
    let x = pos 2 *ℤ c in
    let y = pos 2 *ℤ c +ℤ pos 1 in
    let z = pos 2 *ℤ (c +ℤ pos 1) in
    let sums : 2 * up y + down x + down z ≡ 2 * down y + up x + up z = omega (arith, ints) in
    let scaled : (2 * up y + down x + down z) * n ≡ (2 * down y + up x + up z) * n = ap (λ m. m * n) sums in
    omega (arith, ints, scaled)

no_step : (x : ℤ) → pos 2 *ℤ x ≡ x +ℤ x
no_step x = omega (arith, ints)

turned_sum : (x p q : ℤ) → x ≡ p +ℤ q → x ≡ q +ℤ p
turned_sum x p q e = omega (arith, ints, e)

-- ---- vertices on a border
-- the vertex of a cell on the border of a level that isn't the coarsest
border_vertex : Terrain → ℕ → ℤ → ℤ → Vertex
border_vertex terrain level i j = record {
  x = i *ℤ pos (2 ^ level);
  z = j *ℤ pos (2 ^ level);
  height = pos 16 *ℤ (level_height terrain (level + 1) (lower_end i) (lower_end j) +ℤ level_height terrain (level + 1) (upper_end i) (upper_end j));
}

-- m stands in the middle between p and q
record HasMiddle (p m q : Vertex) : Type 0 where
  x : pos 2 *ℤ m.x ≡ p.x +ℤ q.x
  z : pos 2 *ℤ m.z ≡ p.z +ℤ q.z
  height : pos 2 *ℤ m.height ≡ p.height +ℤ q.height

turned : (p m q : Vertex) → HasMiddle p m q → HasMiddle q m p
turned p m q h = record {
  x = turned_sum (pos 2 *ℤ m.x) p.x q.x h.x;
  z = turned_sum (pos 2 *ℤ m.z) p.z q.z h.z;
  height = turned_sum (pos 2 *ℤ m.height) p.height q.height h.height;
}

-- along a row and along a column, from an even cell on
row_middle : (terrain : Terrain) (level : ℕ) (c b : ℤ) →
    HasMiddle (border_vertex terrain level (pos 2 *ℤ c) (pos 2 *ℤ b)) (border_vertex terrain level (pos 2 *ℤ c +ℤ pos 1) (pos 2 *ℤ b)) (border_vertex terrain level (pos 2 *ℤ (c +ℤ pos 1)) (pos 2 *ℤ b))
unfolding border_vertex
row_middle terrain level c b =
    let h = level_height terrain (level + 1) in
    let d = c +ℤ pos 1 in
    let p0 : h (lower_end (pos 2 *ℤ c)) (lower_end (pos 2 *ℤ b)) ≡ h c b = λ t. h (lower_of_twice c t) (lower_of_twice b t) in
    let p1 : h (upper_end (pos 2 *ℤ c)) (upper_end (pos 2 *ℤ b)) ≡ h c b = λ t. h (upper_of_twice c t) (upper_of_twice b t) in
    let m0 : h (lower_end (pos 2 *ℤ c +ℤ pos 1)) (lower_end (pos 2 *ℤ b)) ≡ h c b = λ t. h (lower_of_next c t) (lower_of_twice b t) in
    let m1 : h (upper_end (pos 2 *ℤ c +ℤ pos 1)) (upper_end (pos 2 *ℤ b)) ≡ h d b = λ t. h (upper_of_next c t) (upper_of_twice b t) in
    let q0 : h (lower_end (pos 2 *ℤ d)) (lower_end (pos 2 *ℤ b)) ≡ h d b = λ t. h (lower_of_twice d t) (lower_of_twice b t) in
    let q1 : h (upper_end (pos 2 *ℤ d)) (upper_end (pos 2 *ℤ b)) ≡ h d b = λ t. h (upper_of_twice d t) (upper_of_twice b t) in
    record { x = middle_step c (2 ^ level); z = no_step (pos 2 *ℤ b *ℤ pos (2 ^ level)); height = omega (arith, ints, p0, p1, m0, m1, q0, q1) }

column_middle : (terrain : Terrain) (level : ℕ) (b c : ℤ) →
    HasMiddle (border_vertex terrain level (pos 2 *ℤ b) (pos 2 *ℤ c)) (border_vertex terrain level (pos 2 *ℤ b) (pos 2 *ℤ c +ℤ pos 1)) (border_vertex terrain level (pos 2 *ℤ b) (pos 2 *ℤ (c +ℤ pos 1)))
unfolding border_vertex
column_middle terrain level b c =
    let h = level_height terrain (level + 1) in
    let d = c +ℤ pos 1 in
    let p0 : h (lower_end (pos 2 *ℤ b)) (lower_end (pos 2 *ℤ c)) ≡ h b c = λ t. h (lower_of_twice b t) (lower_of_twice c t) in
    let p1 : h (upper_end (pos 2 *ℤ b)) (upper_end (pos 2 *ℤ c)) ≡ h b c = λ t. h (upper_of_twice b t) (upper_of_twice c t) in
    let m0 : h (lower_end (pos 2 *ℤ b)) (lower_end (pos 2 *ℤ c +ℤ pos 1)) ≡ h b c = λ t. h (lower_of_twice b t) (lower_of_next c t) in
    let m1 : h (upper_end (pos 2 *ℤ b)) (upper_end (pos 2 *ℤ c +ℤ pos 1)) ≡ h b d = λ t. h (upper_of_twice b t) (upper_of_next c t) in
    let q0 : h (lower_end (pos 2 *ℤ b)) (lower_end (pos 2 *ℤ d)) ≡ h b d = λ t. h (lower_of_twice b t) (lower_of_twice d t) in
    let q1 : h (upper_end (pos 2 *ℤ b)) (upper_end (pos 2 *ℤ d)) ≡ h b d = λ t. h (upper_of_twice b t) (upper_of_twice d t) in
    record { x = no_step (pos 2 *ℤ b *ℤ pos (2 ^ level)); z = middle_step c (2 ^ level); height = omega (arith, ints, p0, p1, m0, m1, q0, q1) }

-- ---- a border
-- the vertices of the cells on the border of a region
record HasBorder (vertices : List Vertex) (terrain : Terrain) (level : ℕ) (active : Region) : Type 0 where
  at : (i j : ℤ) → Lies active i j → OnSide active i j → vertex_of_place vertices (corner_place vertices level i j) ≡ border_vertex terrain level i j

-- three vertices that stand where such ones do are flat
flat_by : (vertices : List Vertex) (p m q : ℕ) (v w u : Vertex) → vertex_of_place vertices p ≡ v → vertex_of_place vertices m ≡ w → vertex_of_place vertices q ≡ u → HasMiddle v w u → IsFlat vertices p m q
flat_by vertices p m q v w u ep em eq h =
    (λ t. is_middle (ep t) (em t) (eq t)) ∙ middle v w u h.x h.z h.height

-- a region with even corners that has a cell, by halves
record IsEven (r : Region) : Type 0 where
  corners : HasEvenCorners r
  some : HasCell r

half_columns : Region → ℕ
half_columns r = int_gap (floor_div r.x0 2) (floor_div r.x1 2)

half_rows : Region → ℕ
half_rows r = int_gap (floor_div r.y0 2) (floor_div r.y1 2)

even_is : (z : ℤ) → floor_rem z 2 ≡ 0 → z ≡ pos 2 *ℤ floor_div z 2
even_is z e = half_and_rest z ∙ omega (arith, ints, e)

odd_columns : (r : Region) → IsEven r → columns r ≡ 2 * half_columns r + 1
unfolding columns half_columns
odd_columns r is =
    omega (arith, ints, even_is r.x0 is.corners.x0, even_is r.x1 is.corners.x1, is.some.across, gap_by r.x0 (r.x1 +ℤ pos 1), gap_by (floor_div r.x0 2) (floor_div r.x1 2))

odd_rows : (r : Region) → IsEven r → rows r ≡ 2 * half_rows r + 1
unfolding rows half_rows
odd_rows r is =
    omega (arith, ints, even_is r.y0 is.corners.y0, even_is r.y1 is.corners.y1, is.some.along, gap_by r.y0 (r.y1 +ℤ pos 1), gap_by (floor_div r.y0 2) (floor_div r.y1 2))

-- the cells of two steps along a row of a side
record IsSideRow (r : Region) (j : ℤ) : Type 0 where
  side : (j ≡ r.y0) ⊎ (j ≡ r.y1)
  north : r.y0 ≤ℤ j
  south : j ≤ℤ r.y1
  half : ℤ
  even : j ≡ pos 2 *ℤ half

record IsSideColumn (r : Region) (i : ℤ) : Type 0 where
  side : (i ≡ r.x0) ⊎ (i ≡ r.x1)
  west : r.x0 ≤ℤ i
  east : i ≤ℤ r.x1
  half : ℤ
  even : i ≡ pos 2 *ℤ half

row_side : (r : Region) (i j : ℤ) → (j ≡ r.y0) ⊎ (j ≡ r.y1) → OnSide r i j
row_side r i j (inl e) = inr (inr (inl e))
row_side r i j (inr e) = inr (inr (inr e))

column_side : (r : Region) (i j : ℤ) → (i ≡ r.x0) ⊎ (i ≡ r.x1) → OnSide r i j
column_side r i j (inl e) = inl e
column_side r i j (inr e) = inr (inl e)

row_vertex : (vertices : List Vertex) (terrain : Terrain) (level : ℕ) (r : Region) (j : ℤ) → HasBorder vertices terrain level r → (row : IsSideRow r j) → IsEven r →
    (v : ℕ) (i : ℤ) → v < 2 * half_columns r + 1 → r.x0 +ℤ pos v ≡ i → vertex_of_place vertices (corner_place vertices level (r.x0 +ℤ pos v) j) ≡ border_vertex terrain level i (pos 2 *ℤ row.half)
unfolding columns
row_vertex vertices terrain level r j border row is v i low e =
    let wide = odd_columns r is in
    let reach : (r.x0 +ℤ pos v) ≤ℤ r.x1 = omega (arith, ints, wide, low, gap_by r.x0 (r.x1 +ℤ pos 1)) in
    border.at (r.x0 +ℤ pos v) j (record { west = omega (arith, ints); east = reach; north = row.north; south = row.south }) (row_side r (r.x0 +ℤ pos v) j row.side)
    ∙ (λ t. border_vertex terrain level (e t) (row.even t))

column_vertex : (vertices : List Vertex) (terrain : Terrain) (level : ℕ) (r : Region) (i : ℤ) → HasBorder vertices terrain level r → (column : IsSideColumn r i) → IsEven r →
    (v : ℕ) (j : ℤ) → v < 2 * half_rows r + 1 → r.y0 +ℤ pos v ≡ j → vertex_of_place vertices (corner_place vertices level i (r.y0 +ℤ pos v)) ≡ border_vertex terrain level (pos 2 *ℤ column.half) j
unfolding rows
column_vertex vertices terrain level r i border column is v j low e =
    let long = odd_rows r is in
    let reach : (r.y0 +ℤ pos v) ≤ℤ r.y1 = omega (arith, ints, long, low, gap_by r.y0 (r.y1 +ℤ pos 1)) in
    border.at i (r.y0 +ℤ pos v) (record { west = column.west; east = column.east; north = omega (arith, ints); south = reach }) (column_side r i (r.y0 +ℤ pos v) column.side)
    ∙ (λ t. border_vertex terrain level (column.even t) (e t))

-- the walk along a row of a side, both ways
row_walk : (vertices : List Vertex) (level : ℕ) (r : Region) (j : ℤ) → IsEven r →
    places_in_row vertices level r j ≡ map (λ v. corner_place vertices level (r.x0 +ℤ pos v) j) (range_with_len 0 (2 * half_columns r + 1))
unfolding places_in_row
row_walk vertices level r j is =
    map_of_map (λ i. corner_place vertices level i j) (λ v. r.x0 +ℤ pos v) (range_with_len 0 (columns r))
    ∙ ap (λ n. map (λ v. corner_place vertices level (r.x0 +ℤ pos v) j) (range_with_len 0 n)) (odd_columns r is)

column_walk : (vertices : List Vertex) (level : ℕ) (r : Region) (i : ℤ) → IsEven r →
    places_in_column vertices level r i ≡ map (λ v. corner_place vertices level i (r.y0 +ℤ pos v)) (range_with_len 0 (2 * half_rows r + 1))
unfolding places_in_column
column_walk vertices level r i is =
    map_of_map (λ j. corner_place vertices level i j) (λ v. r.y0 +ℤ pos v) (range_with_len 0 (rows r))
    ∙ ap (λ n. map (λ v. corner_place vertices level i (r.y0 +ℤ pos v)) (range_with_len 0 n)) (odd_rows r is)

row_flat : (vertices : List Vertex) (terrain : Terrain) (level : ℕ) (r : Region) (j : ℤ) → HasBorder vertices terrain level r → IsSideRow r j → IsEven r →
    All (OfTriangle (IsFlat vertices)) (stitches_along (places_in_row vertices level r j)) × All (OfTriangle (IsFlat vertices)) (stitches_along (reverse (places_in_row vertices level r j)))
row_flat vertices terrain level r j border row is = (
  subst (λ (walk : List ℕ). All (OfTriangle (IsFlat vertices)) (stitches_along walk)) (sym walk)
      (steps_along (IsFlat vertices) (map f (range_with_len 0 (2 * n + 1))) (line_steps (IsFlat vertices) f n (λ u low. flat_by vertices (f (2 * u)) (f (2 * u + 1)) (f (2 * u + 2)) (p u) (m u) (q u) (at_p u low) (at_m u low) (at_q u low) (row_middle terrain level (c u) row.half)))),
  subst (λ (walk : List ℕ). All (OfTriangle (IsFlat vertices)) (stitches_along (reverse walk))) (sym walk)
      (steps_along (IsFlat vertices) (reverse (map f (range_with_len 0 (2 * n + 1)))) (back_steps (IsFlat vertices) f n (λ u low. flat_by vertices (f (2 * u + 2)) (f (2 * u + 1)) (f (2 * u)) (q u) (m u) (p u) (at_q u low) (at_m u low) (at_p u low) (turned (p u) (m u) (q u) (row_middle terrain level (c u) row.half))))),
)
  where
    f : ℕ → ℕ
    f v = corner_place vertices level (r.x0 +ℤ pos v) j

    n : ℕ
    n = half_columns r

    walk : places_in_row vertices level r j ≡ map f (range_with_len 0 (2 * n + 1))
    walk = row_walk vertices level r j is

    c : ℕ → ℤ
    c u = floor_div r.x0 2 +ℤ pos u

    p : ℕ → Vertex
    p u = border_vertex terrain level (pos 2 *ℤ c u) (pos 2 *ℤ row.half)

    m : ℕ → Vertex
    m u = border_vertex terrain level (pos 2 *ℤ c u +ℤ pos 1) (pos 2 *ℤ row.half)

    q : ℕ → Vertex
    q u = border_vertex terrain level (pos 2 *ℤ (c u +ℤ pos 1)) (pos 2 *ℤ row.half)

    at_p : (u : ℕ) → u < n → vertex_of_place vertices (f (2 * u)) ≡ p u
    at_p u low = row_vertex vertices terrain level r j border row is (2 * u) (pos 2 *ℤ c u) (omega (arith, low)) (omega (arith, ints, even_is r.x0 is.corners.x0))

    at_m : (u : ℕ) → u < n → vertex_of_place vertices (f (2 * u + 1)) ≡ m u
    at_m u low = row_vertex vertices terrain level r j border row is (2 * u + 1) (pos 2 *ℤ c u +ℤ pos 1) (omega (arith, low)) (omega (arith, ints, even_is r.x0 is.corners.x0))

    at_q : (u : ℕ) → u < n → vertex_of_place vertices (f (2 * u + 2)) ≡ q u
    at_q u low = row_vertex vertices terrain level r j border row is (2 * u + 2) (pos 2 *ℤ (c u +ℤ pos 1)) (omega (arith, low)) (omega (arith, ints, even_is r.x0 is.corners.x0))

column_flat : (vertices : List Vertex) (terrain : Terrain) (level : ℕ) (r : Region) (i : ℤ) → HasBorder vertices terrain level r → IsSideColumn r i → IsEven r →
    All (OfTriangle (IsFlat vertices)) (stitches_along (places_in_column vertices level r i)) × All (OfTriangle (IsFlat vertices)) (stitches_along (reverse (places_in_column vertices level r i)))
column_flat vertices terrain level r i border column is = (
  subst (λ (walk : List ℕ). All (OfTriangle (IsFlat vertices)) (stitches_along walk)) (sym walk)
      (steps_along (IsFlat vertices) (map f (range_with_len 0 (2 * n + 1))) (line_steps (IsFlat vertices) f n (λ u low. flat_by vertices (f (2 * u)) (f (2 * u + 1)) (f (2 * u + 2)) (p u) (m u) (q u) (at_p u low) (at_m u low) (at_q u low) (column_middle terrain level column.half (c u))))),
  subst (λ (walk : List ℕ). All (OfTriangle (IsFlat vertices)) (stitches_along (reverse walk))) (sym walk)
      (steps_along (IsFlat vertices) (reverse (map f (range_with_len 0 (2 * n + 1)))) (back_steps (IsFlat vertices) f n (λ u low. flat_by vertices (f (2 * u + 2)) (f (2 * u + 1)) (f (2 * u)) (q u) (m u) (p u) (at_q u low) (at_m u low) (at_p u low) (turned (p u) (m u) (q u) (column_middle terrain level column.half (c u)))))),
)
  where
    f : ℕ → ℕ
    f v = corner_place vertices level i (r.y0 +ℤ pos v)

    n : ℕ
    n = half_rows r

    walk : places_in_column vertices level r i ≡ map f (range_with_len 0 (2 * n + 1))
    walk = column_walk vertices level r i is

    c : ℕ → ℤ
    c u = floor_div r.y0 2 +ℤ pos u

    p : ℕ → Vertex
    p u = border_vertex terrain level (pos 2 *ℤ column.half) (pos 2 *ℤ c u)

    m : ℕ → Vertex
    m u = border_vertex terrain level (pos 2 *ℤ column.half) (pos 2 *ℤ c u +ℤ pos 1)

    q : ℕ → Vertex
    q u = border_vertex terrain level (pos 2 *ℤ column.half) (pos 2 *ℤ (c u +ℤ pos 1))

    at_p : (u : ℕ) → u < n → vertex_of_place vertices (f (2 * u)) ≡ p u
    at_p u low = column_vertex vertices terrain level r i border column is (2 * u) (pos 2 *ℤ c u) (omega (arith, low)) (omega (arith, ints, even_is r.y0 is.corners.y0))

    at_m : (u : ℕ) → u < n → vertex_of_place vertices (f (2 * u + 1)) ≡ m u
    at_m u low = column_vertex vertices terrain level r i border column is (2 * u + 1) (pos 2 *ℤ c u +ℤ pos 1) (omega (arith, low)) (omega (arith, ints, even_is r.y0 is.corners.y0))

    at_q : (u : ℕ) → u < n → vertex_of_place vertices (f (2 * u + 2)) ≡ q u
    at_q u low = column_vertex vertices terrain level r i border column is (2 * u + 2) (pos 2 *ℤ (c u +ℤ pos 1)) (omega (arith, low)) (omega (arith, ints, even_is r.y0 is.corners.y0))

-- the stitches of one level
border_flat : (vertices : List Vertex) (terrain : Terrain) (level : ℕ) (r : Region) → HasBorder vertices terrain level r → IsEven r →
    All (OfTriangle (IsFlat vertices)) (flat_map (λ part. part.triangles) (stitch_parts vertices level r))
unfolding stitch_parts stitch_part
border_flat vertices terrain level r border is =
    let some : is_empty r ≡ false = not_empty r is.some in
    let north = row_flat vertices terrain level r r.y0 border (record { side = inl refl; north = omega (arith, ints); south = is.some.along; half = floor_div r.y0 2; even = even_is r.y0 is.corners.y0 }) is in
    let south = row_flat vertices terrain level r r.y1 border (record { side = inr refl; north = is.some.along; south = omega (arith, ints); half = floor_div r.y1 2; even = even_is r.y1 is.corners.y1 }) is in
    let west = column_flat vertices terrain level r r.x0 border (record { side = inl refl; west = omega (arith, ints); east = is.some.across; half = floor_div r.x0 2; even = even_is r.x0 is.corners.x0 }) is in
    let east = column_flat vertices terrain level r r.x1 border (record { side = inr refl; west = is.some.across; east = omega (arith, ints); half = floor_div r.x1 2; even = even_is r.x1 is.corners.x1 }) is in
    let flat = OfTriangle (IsFlat vertices) in
    let walk0 = stitches_along (places_in_row vertices level r r.y0) in
    let walk1 = stitches_along (places_in_column vertices level r r.x1) in
    let walk2 = stitches_along (reverse (places_in_row vertices level r r.y1)) in
    let walk3 = stitches_along (reverse (places_in_column vertices level r r.x0)) in
    rw some (All-append flat walk0 (walk1 ++ (walk2 ++ (walk3 ++ []))) north.0 (All-append flat walk1 (walk2 ++ (walk3 ++ [])) east.0 (All-append flat walk2 (walk3 ++ []) south.1 (All-append flat walk3 [] west.1 (All-nil flat)))))

no_border : (vertices : List Vertex) (level : ℕ) (r : Region) → is_empty r ≡ true → All (OfTriangle (IsFlat vertices)) (flat_map (λ part. part.triangles) (stitch_parts vertices level r))
unfolding stitch_parts
no_border vertices level r none = rw none (All-nil (OfTriangle (IsFlat vertices)))

-- ---- all levels
-- the border distance of a cell on a side is 0
side_distance : (r : Region) (i j : ℤ) → Lies r i j → OnSide r i j → border_distance r i j ≡ pos 0
unfolding border_distance
side_distance r i j l (inl e) = omega (arith, ints, clamps, l.west, l.east, l.north, l.south, e)
side_distance r i j l (inr (inl e)) = omega (arith, ints, clamps, l.west, l.east, l.north, l.south, e)
side_distance r i j l (inr (inr (inl e))) = omega (arith, ints, clamps, l.west, l.east, l.north, l.south, e)
side_distance r i j l (inr (inr (inr e))) = omega (arith, ints, clamps, l.west, l.east, l.north, l.south, e)

-- what all levels share
record HasAll (terrain : Terrain) (k : ℕ) (actives : List Region) : Type 0 where
  size : IsSize k
  apart : AllPairs StandApart (mesh_vertices terrain k actives)
  own : OwnPlaces

level_border : (terrain : Terrain) (k e level : ℕ) (actives : List Region) (finer active : Region) → HasAll terrain k actives → 1 ≤ e → IsInner e finer active → IsListed (listed_vertices actives) level finer active →
    active_at actives level ≡ active → level + 1 < length actives → HasBorder (mesh_vertices terrain k actives) terrain level active
unfolding border_vertex vertex_at
level_border terrain k e level actives finer active all margin inner listed is low = record {
  at = λ i j l side.
      let gap = hole finer in
      let out : contains gap i j ≡ false = false_from_ne_true (contains gap i j) (λ t.
      let deep : Lies gap i j = lies gap i j t in
      not_deep e active gap i j margin (hole_deep e finer active inner (cell_in gap i j deep)) deep side) in
      let distance : border_distance (active_at actives level) i j ≡ pos 0 = ap (λ r. border_distance r i j) is ∙ side_distance active i j l side in
      vertex_there terrain k actives (record { level = level; i = i; j = j }) all.apart all.own (listed.at i j l out)
      ∙ ap (λ (height : ℤ). record { x = i *ℤ pos (2 ^ level); z = j *ℤ pos (2 ^ level); height = height }) (height_at_border terrain k actives level i j all.size low distance);
}

levels_flat : (terrain : Terrain) (k e level : ℕ) (actives done : List Region) (finer active : Region) (coarser : List Region) → HasAll terrain k actives → 1 ≤ e →
    done ++ (active ∷ coarser) ≡ actives → length done ≡ level → AreNested e (finer ∷ active ∷ coarser) → AllEvenOrEmpty (active ∷ coarser) → AreListed (listed_vertices actives) level finer (active ∷ coarser) →
    All (OfTriangle (IsFlat (mesh_vertices terrain k actives))) (flat_map (λ part. part.triangles) (stitch_parts_from (mesh_vertices terrain k actives) level active coarser))
unfolding active_at
levels_flat terrain k e level actives done finer active [] all margin whole count nested shapes listed = All-nil (OfTriangle (IsFlat (mesh_vertices terrain k actives)))
levels_flat terrain k e level actives done finer active (next ∷ coarser) all margin whole count nested shapes listed =
    let vertices = mesh_vertices terrain k actives in
    let flat = OfTriangle (IsFlat vertices) in
    let triangles = λ (part : PartTriangles). part.triangles in
    let here = stitch_parts vertices level active in
    let rest = stitch_parts_from vertices (level + 1) next coarser in
    let more : length (done ++ (active ∷ [])) ≡ level + 1 = length-append done (active ∷ []) ∙ ap (λ n. n + 1) count in
    let longer : level + 1 < length actives = omega (arith, ap length (sym whole), length-append done (active ∷ next ∷ coarser), count) in
    subst (All flat) (sym (flat_map-append triangles here rest))
    (All-append flat (flat_map triangles here) (flat_map triangles rest) (own longer)
    (levels_flat terrain k e (level + 1) actives (done ++ (active ∷ [])) active next coarser all margin (append_assoc done (active ∷ []) (next ∷ coarser) ∙ whole) more nested.1 shapes.1 listed.1))
  where
    at_level : active_at actives level ≡ active
    at_level =
        (λ t. get_or (sym whole t) (sym count t) empty_region)
        ∙ (λ t. get_or (done ++ (active ∷ next ∷ coarser)) (sym (plus_zero (length done)) t) empty_region)
        ∙ get_or-append-add done (active ∷ next ∷ coarser) 0 empty_region

    own : level + 1 < length actives → All (OfTriangle (IsFlat (mesh_vertices terrain k actives))) (flat_map (λ part. part.triangles) (stitch_parts (mesh_vertices terrain k actives) level active))
    own longer =
        elim (cases_Bool (is_empty active)) [
          | inl none ↦ no_border (mesh_vertices terrain k actives) level active none
          | inr some ↦ border_flat (mesh_vertices terrain k actives) terrain level active (level_border terrain k e level actives finer active all margin nested.0 listed.0 at_level longer)
              (record { corners = even_if_cell active shapes.0 (has_cell active some); some = has_cell active some })
        ]

pub stitches_flat : (terrain : Terrain) (k e : ℕ) (actives : List Region) → IsSize k → 1 ≤ e → AllEvenOrEmpty actives → AreNested e actives → VerticesApart → OwnPlaces →
    All (OfTriangle (IsFlat (mesh_vertices terrain k actives))) (flat_map (λ part. part.triangles) (all_stitch_parts (mesh_vertices terrain k actives) actives))
stitches_flat terrain k e [] size margin shapes nested apart own = All-nil (OfTriangle (IsFlat (mesh_vertices terrain k [])))
stitches_flat terrain k e (active ∷ coarser) size margin shapes nested apart own =
    let actives = active ∷ coarser in
    levels_flat terrain k e 0 actives [] empty_region active coarser (record { size = size; apart = apart terrain k e actives nested; own = own }) margin refl refl
    (from_nothing e actives nested) shapes (all_listed e actives nested)

pub flat_where_drawn : (terrain : Terrain) (k : ℕ) (actives : List Region) → IsSize k → AreDrawn k actives → VerticesApart → OwnPlaces → StitchesAreFlat terrain k actives
unfolding margin
flat_where_drawn terrain k actives size drawn apart own =
    stitches_flat terrain k (margin k) actives size (omega arith) drawn.even drawn.nested apart own
