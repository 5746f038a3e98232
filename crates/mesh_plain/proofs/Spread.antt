-- Each listed cell lies in the active region of its level.
use Rattle.std.proofs.Common.{◌≡◌, ℕ, suc, ◌+◌, ◌^◌, ◌<◌, true, not, List, [], ◌∷◌, length, get_or, map, ℤ, pos, ◌+ℤ◌, ◌≤ℤ◌, sym, ap, ◌∙◌, subst, arith}
use Rattle.std.specs.List.{All, flat_map, range_with_len}
use Rattle.std.proofs.lemmas.Int.{ints}
use Rattle.std.proofs.lemmas.List.Elements.{All-nil, All-cons, All-head, All-tail, All-append, All-map, All-filter, All-weaker, All-same}
use Rattle.std.proofs.lemmas.List.FromFn.{get_or-range_with_len, length-range_with_len}
use Rattle.clip_regions.specs.declared.region.Region.{Region}
use Rattle.clip_regions.specs.Regions.{contains, columns, rows, cells, numbers_from, empty_region, IsWithin}
use Rattle.mesh_model.specs.Height.{active_at}
use Rattle.mesh_model.specs.Vertices.{LevelCell, hole, cells_outside, listed_from, listed_vertices}
use Rattle.mesh_plain_heights.specs.declared.places.Cell.{Cell}
use Rattle.mesh_plain_heights.specs.Placed.{IsPlacedAt}
use Rattle.mesh_plain.specs.Rings.{IsActive, level_cell}
use Rattle.mesh_plain.specs.Frames.{IsDrawn, AreDrawn}
use Rattle.mesh_plain_heights.specs.Drawn.{IsDrawnCell}
use Rattle.mesh_plain.proofs.Between.{placed_between}
use Rattle.clip_regions.proofs.Gaps.{gap_holds}

all_pieces : {A B : Type 0} (P : B → Type 0) (f : A → List B) (xs : List A) → All (λ x. All P (f x)) xs → All P (flat_map f xs)
all_pieces P f [] h = All-nil P
all_pieces P f (x ∷ xs) h =
    All-append P (f x) (flat_map f xs) (All-head (λ y. All P (f y)) x xs h) (all_pieces P f xs (All-tail (λ y. All P (f y)) x xs h))

all_counted : (P : ℕ → Type 0) (n : ℕ) → ((i : ℕ) → i < n → P i) → All P (range_with_len 0 n)
all_counted P n holds =
    λ k d here. let below : k < n = omega (arith, length-range_with_len 0 n) in
    let at : get_or (range_with_len 0 n) k d ≡ k = omega (arith, get_or-range_with_len 0 n k d below) in
    subst P (sym at) (holds k below)

all_numbers : (P : ℤ → Type 0) (a : ℤ) (n : ℕ) → ((i : ℕ) → i < n → P (a +ℤ pos i)) → All P (numbers_from a n)
all_numbers P a n holds = All-map P (λ i. a +ℤ pos i) (range_with_len 0 n) (all_counted (λ i. P (a +ℤ pos i)) n holds)

-- a cell of a region that is drawn
pub record IsCellOf (level : ℕ) (r : Region) (cell : ℤ × ℤ) : Type 0 where
  pub inside : contains r cell.0 cell.1 ≡ true
  pub column : IsPlacedAt level cell.0
  pub row : IsPlacedAt level cell.1

lying : (r : Region) (i j : ℤ) → r.x0 ≤ℤ i → i ≤ℤ r.x1 → r.y0 ≤ℤ j → j ≤ℤ r.y1 → contains r i j ≡ true
unfolding contains
lying r i j west east north south = grind (arith, ints)

cell_is : (level : ℕ) (r : Region) (v u : ℕ) → IsDrawn level r → u < columns r → v < rows r → IsCellOf level r (r.x0 +ℤ pos u, r.y0 +ℤ pos v)
unfolding columns rows
cell_is level r v u drawn narrow low =
    let in_columns = gap_holds r.x0 (r.x1 +ℤ pos 1) u narrow in
    let in_rows = gap_holds r.y0 (r.y1 +ℤ pos 1) v low in
    let west : r.x0 ≤ℤ (r.x0 +ℤ pos u) = omega (arith, ints) in
    let east : (r.x0 +ℤ pos u) ≤ℤ r.x1 = omega (arith, ints, in_columns) in
    let north : r.y0 ≤ℤ (r.y0 +ℤ pos v) = omega (arith, ints) in
    let south : (r.y0 +ℤ pos v) ≤ℤ r.y1 = omega (arith, ints, in_rows) in
    record {
      inside = lying r (r.x0 +ℤ pos u) (r.y0 +ℤ pos v) west east north south;
      column = placed_between level r.x0 r.x1 (r.x0 +ℤ pos u) drawn.west drawn.east west east;
      row = placed_between level r.y0 r.y1 (r.y0 +ℤ pos v) drawn.north drawn.south north south;
    }

cells_are : (level : ℕ) (r : Region) → IsDrawn level r → All (IsCellOf level r) (cells r)
cells_are level r drawn =
    all_pieces (IsCellOf level r) (λ j. map (λ i. (i, j)) (numbers_from r.x0 (columns r))) (numbers_from r.y0 (rows r))
    (all_numbers (λ j. All (IsCellOf level r) (map (λ i. (i, j)) (numbers_from r.x0 (columns r)))) r.y0 (rows r)
    (λ v low. All-map (IsCellOf level r) (λ i. (i, r.y0 +ℤ pos v)) (numbers_from r.x0 (columns r))
    (all_numbers (λ i. IsCellOf level r (i, r.y0 +ℤ pos v)) r.x0 (columns r) (λ u narrow. cell_is level r v u drawn narrow low))))

-- a cell of a level from this one on, of whose regions this is the list
pub record IsListedFrom (base : ℕ) (rest : List Region) (cell : LevelCell) : Type 0 where
  pub offset : ℕ
  pub level_is : cell.level ≡ base + offset
  pub listed : offset < length rest
  pub near : IsWithin (2 ^ 24) (get_or rest offset empty_region)
  pub inside : contains (get_or rest offset empty_region) cell.i cell.j ≡ true
  pub column : IsPlacedAt cell.level cell.i
  pub row : IsPlacedAt cell.level cell.j

first_is : (level : ℕ) (active : Region) (coarser : List Region) → IsDrawn level active → (cell : ℤ × ℤ) → IsCellOf level active cell → IsListedFrom level (active ∷ coarser) (record { level = level; i = cell.0; j = cell.1 })
first_is level active coarser drawn cell h = record {
  offset = 0;
  level_is = omega arith;
  listed = omega arith;
  near = drawn.active.within;
  inside = h.inside;
  column = h.column;
  row = h.row;
}

later_is : (level : ℕ) (active : Region) (coarser : List Region) (cell : LevelCell) → IsListedFrom (level + 1) coarser cell → IsListedFrom level (active ∷ coarser) cell
later_is level active coarser cell h = record {
  offset = suc h.offset;
  level_is = omega (arith, h.level_is);
  listed = omega (arith, h.listed);
  near = h.near;
  inside = h.inside;
  column = h.column;
  row = h.row;
}

listed_are : (level : ℕ) (finer : Region) (rest : List Region) → AreDrawn level rest → All (IsListedFrom level rest) (listed_from level finer rest)
unfolding cells_outside
listed_are level finer [] drawn = All-nil (IsListedFrom level [])
listed_are level finer (active ∷ coarser) drawn =
    let P = IsListedFrom level (active ∷ coarser) in
    let as_cell = λ (cell : ℤ × ℤ). let c : LevelCell = record { level = level; i = cell.0; j = cell.1 } in c in
    All-append P (map as_cell (cells_outside finer active)) (listed_from (level + 1) active coarser)
    (All-map P as_cell (cells_outside finer active)
    (All-filter (λ cell. not (contains (hole finer) cell.0 cell.1)) (λ cell. P (as_cell cell)) (cells active)
    (All-weaker (IsCellOf level active) (λ cell. P (as_cell cell)) (first_is level active coarser drawn.0) (cells active) (cells_are level active drawn.0))))
    (All-weaker (IsListedFrom (level + 1) coarser) P (later_is level active coarser) (listed_from (level + 1) active coarser) (listed_are (level + 1) active coarser drawn.1))

all_before : {A B : Type 0} (P : B → Type 0) (f : A → B) (xs : List A) → All P (map f xs) → All (λ x. P (f x)) xs
all_before P f [] h = All-nil (λ x. P (f x))
all_before P f (x ∷ xs) h =
    All-cons (λ y. P (f y)) x xs (All-head P (f x) (map f xs) h) (all_before P f xs (All-tail P (f x) (map f xs) h))

drawn_is : (actives : List Region) (cell : Cell) → IsListedFrom 0 actives (level_cell cell) → IsDrawnCell actives cell
unfolding active_at
drawn_is actives cell h =
    let same : h.offset ≡ cell.level = omega (arith, h.level_is) in
    record {
      listed = omega (arith, h.listed, same);
      near = subst (λ (n : ℕ). IsWithin (2 ^ 24) (get_or actives n empty_region)) same h.near;
      inside = ap (λ (n : ℕ). contains (get_or actives n empty_region) cell.i cell.j) (sym same) ∙ h.inside;
      column = h.column;
      row = h.row;
    }

-- the listed cells can be drawn
pub all_drawn : (actives : List Region) (found : List Cell) → AreDrawn 0 actives → map level_cell found ≡ listed_vertices actives → All (IsDrawnCell actives) found
all_drawn actives found drawn same =
    All-weaker (λ cell. IsListedFrom 0 actives (level_cell cell)) (IsDrawnCell actives) (drawn_is actives) found
    (all_before (IsListedFrom 0 actives) level_cell found
    (All-same (IsListedFrom 0 actives) (map level_cell found) (listed_vertices actives) same (listed_are 0 empty_region actives drawn)))

-- regions that are drawn are active
pub all_active : (level : ℕ) (actives : List Region) → AreDrawn level actives → All IsActive actives
all_active level [] drawn = All-nil IsActive
all_active level (active ∷ coarser) drawn = All-cons IsActive active coarser drawn.0.active (all_active (level + 1) coarser drawn.1)
