-- Where a cell stands among those that a ring lists: rows above the hole, rows through it, rows below it.
use Rattle.std.proofs.Common.{◌≡◌, ℕ, ◌+◌, ◌-◌, ◌*◌, ◌<◌, ◌≤◌, Bool, true, false, not, List, ◌++◌, ℤ, pos, ◌+ℤ◌, ◌≤ℤ◌, ◌<ℤ◌, length, map, min, refl, ap, sym, subst, ◌∙◌, ◌⊎◌, inl, inr, length-append, arith}
use Rattle.std.specs.List.{flat_map, filter, range_with_len}
use Rattle.std.specs.Int.{int_gap}
use Rattle.std.proofs.lemmas.Int.{ints}
use Rattle.std.proofs.lemmas.Bool.{cases_Bool, cases_lt, false_from_ne_true, true≢false}
use Rattle.std.proofs.lemmas.List.FromFn.{length-map-range_with_len}
use lib.Signed.{lt_z}
use Rattle.clip_regions.specs.declared.region.Region.{Region}
use Rattle.clip_regions.specs.Regions.{contains, empty_region, columns, rows, area, numbers_from}
use Rattle.mesh_model.specs.Vertices.{hole, cells_outside}
use Rattle.mesh_laws.specs.Rings.{passed_rows, listed_before}
use Rattle.mesh_laws.proofs.Lists.{IsAt, at_left, at_right, at_range}
use Rattle.mesh_laws.proofs.Rectangles.{hole_or_none}
use Rattle.clip_regions.proofs.Gaps.{gap_by}
use Rattle.mesh_laws.proofs.Rows.{filter_of_flat_map, filter_keeps, filter_middle, before, at_row, HasShortRows, before_short}
use Rattle.clip_regions.proofs.Cells.{Lies, lies, lying, HasCell, Within}
use Rattle.mesh_model.proofs.Rectangles.{IsInner, hole_within}
use Rattle.mesh_model.proofs.Ranges.{map_of_map, flat_map_of_map}

-- the cell in column u and row v of a region, counted from its north-west corner
unfoldable pub cell_in_row : Region → ℕ → ℕ → ℤ × ℤ
cell_in_row active v u = (active.x0 +ℤ pos u, active.y0 +ℤ pos v)

-- the cell is outside the hole
unfoldable pub is_out : Region → ℤ × ℤ → Bool
is_out gap cell = not (contains gap cell.0 cell.1)

-- row v of the cells outside the hole
unfoldable pub row_out : Region → Region → ℕ → List (ℤ × ℤ)
row_out gap active v = filter (is_out gap) (map (cell_in_row active v) (range_with_len 0 (columns active)))

pub cells_are_rows : (finer active : Region) → cells_outside finer active ≡ flat_map (row_out (hole finer) active) (range_with_len 0 (rows active))
unfolding cells_outside row_out is_out cell_in_row
cells_are_rows finer active =
    filter_of_flat_map (is_out (hole finer)) (λ j. map (λ i. (i, j)) (numbers_from active.x0 (columns active))) (numbers_from active.y0 (rows active))
    ∙ flat_map_of_map (λ j. filter (is_out (hole finer)) (map (λ i. (i, j)) (numbers_from active.x0 (columns active)))) (λ v. active.y0 +ℤ pos v) (range_with_len 0 (rows active))
    ∙ (λ t. flat_map (λ v. row v t) (range_with_len 0 (rows active)))
  where
    row : (v : ℕ) → filter (is_out (hole finer)) (map (λ i. (i, active.y0 +ℤ pos v)) (numbers_from active.x0 (columns active))) ≡ row_out (hole finer) active v
    row v = ap (filter (is_out (hole finer))) (map_of_map (λ i. (i, active.y0 +ℤ pos v)) (λ u. active.x0 +ℤ pos u) (range_with_len 0 (columns active)))

not_there : (gap : Region) (i j : ℤ) → (Lies gap i j → ⊥) → contains gap i j ≡ false
not_there gap i j h = false_from_ne_true (contains gap i j) (λ t. h (lies gap i j t))

is_out_when : (gap : Region) (active : Region) (v u : ℕ) → (Lies gap (active.x0 +ℤ pos u) (active.y0 +ℤ pos v) → ⊥) → is_out gap (cell_in_row active v u) ≡ true
unfolding is_out cell_in_row
is_out_when gap active v u h = ap not (not_there gap (active.x0 +ℤ pos u) (active.y0 +ℤ pos v) h)

is_in_when : (gap : Region) (active : Region) (v u : ℕ) → Lies gap (active.x0 +ℤ pos u) (active.y0 +ℤ pos v) → is_out gap (cell_in_row active v u) ≡ false
unfolding is_out cell_in_row
is_in_when gap active v u h = ap not (lying gap (active.x0 +ℤ pos u) (active.y0 +ℤ pos v) h)

-- ---- a hole that has a cell
-- where the hole begins, how far it reaches and what is left, in columns and in rows of the region
record HasGap (gap active : Region) : Type 0 where
  some : HasCell gap
  within : Within active gap

widths : (gap active : Region) → HasGap gap active → int_gap active.x0 gap.x0 + columns gap + int_gap gap.x1 active.x1 ≡ columns active
unfolding columns
widths gap active h =
    let some = h.some in
    let w = h.within in
    omega (arith, ints, some.across, w.west, w.east, gap_by active.x0 gap.x0, gap_by gap.x0 (gap.x1 +ℤ pos 1), gap_by gap.x1 active.x1, gap_by active.x0 (active.x1 +ℤ pos 1))

whole_row : (gap active : Region) (v : ℕ) → HasGap gap active → (v < int_gap active.y0 gap.y0) ⊎ (int_gap active.y0 gap.y0 + rows gap ≤ v) →
    row_out gap active v ≡ map (cell_in_row active v) (range_with_len 0 (columns active))
unfolding row_out rows
whole_row gap active v h away =
    filter_keeps (is_out gap) (cell_in_row active v) 0 (columns active) (λ u low high. is_out_when gap active v u (λ l. apart u l away))
  where
    apart : (u : ℕ) → Lies gap (active.x0 +ℤ pos u) (active.y0 +ℤ pos v) → (v < int_gap active.y0 gap.y0) ⊎ (int_gap active.y0 gap.y0 + int_gap gap.y0 (gap.y1 +ℤ pos 1) ≤ v) → ⊥
    apart u l (inl above) =
        let w = h.within in
        omega (arith, ints, above, l.north, w.north, gap_by active.y0 gap.y0)
    apart u l (inr below) =
        let some = h.some in
        let w = h.within in
        omega (arith, ints, below, l.south, w.north, some.along, gap_by active.y0 gap.y0, gap_by gap.y0 (gap.y1 +ℤ pos 1))

short_row : (gap active : Region) (v : ℕ) → HasGap gap active → int_gap active.y0 gap.y0 ≤ v → v < int_gap active.y0 gap.y0 + rows gap →
    row_out gap active v ≡ map (cell_in_row active v) (range_with_len 0 (int_gap active.x0 gap.x0)) ++ map (cell_in_row active v) (range_with_len (int_gap active.x0 gap.x0 + columns gap) (int_gap gap.x1 active.x1))
unfolding row_out rows columns
short_row gap active v h low high =
    let a = int_gap active.x0 gap.x0 in
    let b = int_gap gap.x0 (gap.x1 +ℤ pos 1) in
    filter_middle (is_out gap) (cell_in_row active v) a b (int_gap gap.x1 active.x1) (int_gap active.x0 (active.x1 +ℤ pos 1)) (a + b) (widths gap active h) refl
    (λ u below. is_out_when gap active v u (λ l. west u below l))
    (λ u from to. is_in_when gap active v u (inside u from to))
    (λ u past _. is_out_when gap active v u (λ l. east u past l))
  where
    west : (u : ℕ) → u < int_gap active.x0 gap.x0 → Lies gap (active.x0 +ℤ pos u) (active.y0 +ℤ pos v) → ⊥
    west u below l = let w = h.within in omega (arith, ints, below, l.west, w.west, gap_by active.x0 gap.x0)

    east : (u : ℕ) → int_gap active.x0 gap.x0 + int_gap gap.x0 (gap.x1 +ℤ pos 1) ≤ u → Lies gap (active.x0 +ℤ pos u) (active.y0 +ℤ pos v) → ⊥
    east u past l =
        let w = h.within in
        let some = h.some in
        omega (arith, ints, past, l.east, w.west, some.across, gap_by active.x0 gap.x0, gap_by gap.x0 (gap.x1 +ℤ pos 1))

    inside : (u : ℕ) → int_gap active.x0 gap.x0 ≤ u → u < int_gap active.x0 gap.x0 + int_gap gap.x0 (gap.x1 +ℤ pos 1) → Lies gap (active.x0 +ℤ pos u) (active.y0 +ℤ pos v)
    inside u from to =
        let w = h.within in
        let some = h.some in
        record {
          west = omega (arith, ints, from, w.west, gap_by active.x0 gap.x0);
          east = omega (arith, ints, to, w.west, some.across, gap_by active.x0 gap.x0, gap_by gap.x0 (gap.x1 +ℤ pos 1));
          north = omega (arith, ints, low, w.north, gap_by active.y0 gap.y0);
          south = omega (arith, ints, high, w.north, some.along, gap_by active.y0 gap.y0, gap_by gap.y0 (gap.y1 +ℤ pos 1));
        }

short_rows : (gap active : Region) → HasGap gap active → HasShortRows (row_out gap active) (columns active) (int_gap active.y0 gap.y0) (rows gap) (columns gap)
short_rows gap active h = record {
  whole_before = λ v low. ap length (whole_row gap active v h (inl low)) ∙ length-map-range_with_len (cell_in_row active v) 0 (columns active);
  short = λ v low high.
      let e = short_row gap active v h low high in
      let one = length-map-range_with_len (cell_in_row active v) 0 (int_gap active.x0 gap.x0) in
      let two = length-map-range_with_len (cell_in_row active v) (int_gap active.x0 gap.x0 + columns gap) (int_gap gap.x1 active.x1) in
      let both = length-append {A = ℤ × ℤ} (map (cell_in_row active v) (range_with_len 0 (int_gap active.x0 gap.x0))) (map (cell_in_row active v) (range_with_len (int_gap active.x0 gap.x0 + columns gap) (int_gap gap.x1 active.x1))) in
      let len = ap {A = List (ℤ × ℤ)} length e in
      let all = widths gap active h in
      omega (arith, len, both, one, two, all);
  whole_after = λ v past. ap length (whole_row gap active v h (inr past)) ∙ length-map-range_with_len (cell_in_row active v) 0 (columns active);
}

-- the place of a cell by its row and what stands before it there
place_by : (w v m b p u x before' : ℕ) → before' + b * x ≡ v * m → p ≡ x → w ≡ v * m + u - b * p → w ≡ before' + u
place_by w v m b p u x before' here same e =
    let scaled : b * p ≡ b * x = ap (λ n. b * n) same in
    omega (arith, here, scaled, e)

place_past : (w v m b p u x before' : ℕ) → before' + b * x ≡ v * m → p ≡ x + 1 → w ≡ v * m + u - b * p → b ≤ u → w ≡ before' + (u - b)
place_past w v m b p u x before' here same e room =
    let scaled : b * p ≡ b * (x + 1) = ap (λ n. b * n) same in
    omega (arith, here, scaled, e, room)

-- the column and row of a cell that lies in a region
at_offset : (a i : ℤ) → a ≤ℤ i → a +ℤ pos (int_gap a i) ≡ i
at_offset a i h = let g = gap_by a i in omega (arith, ints)

same_cell : (active : Region) (i j : ℤ) → Lies active i j → cell_in_row active (int_gap active.y0 j) (int_gap active.x0 i) ≡ (i, j)
unfolding cell_in_row
same_cell active i j l = λ t. (at_offset active.x0 i l.west t, at_offset active.y0 j l.north t)

not_past : (gap : Region) (i j : ℤ) → i ≤ℤ gap.x1 → passed_rows gap i j ≡ min (int_gap gap.y0 j) (rows gap)
unfolding passed_rows
not_past gap i j h =
    let test : lt_z gap.x1 i ≡ false = grind (arith, ints) in
    rw test refl

past : (gap : Region) (i j : ℤ) → gap.x1 <ℤ i → passed_rows gap i j ≡ min (int_gap gap.y0 (j +ℤ pos 1)) (rows gap)
unfolding passed_rows
past gap i j h =
    let test : lt_z gap.x1 i ≡ true = grind (arith, ints) in
    rw test refl

-- how many rows of the hole end before the cell, counted in rows of the region
passed_is : (gap active : Region) (i j : ℤ) → HasGap gap active → Lies active i j →
    ((passed_rows gap i j ≡ min (int_gap active.y0 j - int_gap active.y0 gap.y0) (rows gap)) × (i ≤ℤ gap.x1))
    ⊎ ((passed_rows gap i j ≡ min (int_gap active.y0 j + 1 - int_gap active.y0 gap.y0) (rows gap)) × (gap.x1 <ℤ i))
passed_is gap active i j h l =
    let w = h.within in
    elim (cases_Bool (lt_z gap.x1 i)) [
      | inl e ↦ let east : gap.x1 <ℤ i = omega (arith, ints) in
          let rows' : int_gap gap.y0 (j +ℤ pos 1) ≡ int_gap active.y0 j + 1 - int_gap active.y0 gap.y0 = omega (arith, ints, w.north, l.north, gap_by gap.y0 (j +ℤ pos 1), gap_by active.y0 j, gap_by active.y0 gap.y0) in
          inr (past gap i j east ∙ ap (λ n. min n (rows gap)) rows', east)
      | inr e ↦ let west : i ≤ℤ gap.x1 = omega (arith, ints) in
          let rows' : int_gap gap.y0 j ≡ int_gap active.y0 j - int_gap active.y0 gap.y0 = omega (arith, ints, w.north, l.north, gap_by gap.y0 j, gap_by active.y0 j, gap_by active.y0 gap.y0) in
          inl (not_past gap i j west ∙ ap (λ n. min n (rows gap)) rows', west)
    ]

-- the cell in its row, where this is whole
in_whole_row : (gap active : Region) (i j : ℤ) → Lies active i j →
    row_out gap active (int_gap active.y0 j) ≡ map (cell_in_row active (int_gap active.y0 j)) (range_with_len 0 (columns active)) →
    IsAt (row_out gap active (int_gap active.y0 j)) (int_gap active.x0 i) (i, j)
unfolding columns
in_whole_row gap active i j l e =
    let u = int_gap active.x0 i in
    let v = int_gap active.y0 j in
    let low : u < int_gap active.x0 (active.x1 +ℤ pos 1) = omega (arith, ints, l.west, l.east, gap_by active.x0 i, gap_by active.x0 (active.x1 +ℤ pos 1)) in
    let there : IsAt (map (cell_in_row active v) (range_with_len 0 (int_gap active.x0 (active.x1 +ℤ pos 1)))) u (i, j) =
    subst (λ (x : ℤ × ℤ). IsAt (map (cell_in_row active v) (range_with_len 0 (int_gap active.x0 (active.x1 +ℤ pos 1)))) u x) (same_cell active i j l) (at_range (cell_in_row active v) 0 (int_gap active.x0 (active.x1 +ℤ pos 1)) u u low (omega arith)) in
    subst (λ (xs : List (ℤ × ℤ)). IsAt xs u (i, j)) (sym e) there

-- a row of the hole: west of it, and east of it
in_short_row : (gap active : Region) (i j : ℤ) → HasGap gap active → Lies active i j → int_gap active.y0 gap.y0 ≤ int_gap active.y0 j → int_gap active.y0 j < int_gap active.y0 gap.y0 + rows gap →
    int_gap active.x0 i < int_gap active.x0 gap.x0 → IsAt (row_out gap active (int_gap active.y0 j)) (int_gap active.x0 i) (i, j)
in_short_row gap active i j h l low high west =
    let u = int_gap active.x0 i in
    let v = int_gap active.y0 j in
    let first = map (cell_in_row active v) (range_with_len 0 (int_gap active.x0 gap.x0)) in
    let second = map (cell_in_row active v) (range_with_len (int_gap active.x0 gap.x0 + columns gap) (int_gap gap.x1 active.x1)) in
    let there : IsAt first u (i, j) = subst (λ (x : ℤ × ℤ). IsAt first u x) (same_cell active i j l) (at_range (cell_in_row active v) 0 (int_gap active.x0 gap.x0) u u west (omega arith)) in
    subst (λ (xs : List (ℤ × ℤ)). IsAt xs u (i, j)) (sym (short_row gap active v h low high)) (at_left first second u (i, j) there)

in_short_row_east : (gap active : Region) (i j : ℤ) → HasGap gap active → Lies active i j → int_gap active.y0 gap.y0 ≤ int_gap active.y0 j → int_gap active.y0 j < int_gap active.y0 gap.y0 + rows gap →
    int_gap active.x0 gap.x0 + columns gap ≤ int_gap active.x0 i → IsAt (row_out gap active (int_gap active.y0 j)) (int_gap active.x0 i - columns gap) (i, j)
unfolding columns
in_short_row_east gap active i j h l low high east =
    let u = int_gap active.x0 i in
    let v = int_gap active.y0 j in
    let a = int_gap active.x0 gap.x0 in
    let t = a + columns gap in
    let first = map (cell_in_row active v) (range_with_len 0 a) in
    let second = map (cell_in_row active v) (range_with_len t (int_gap gap.x1 active.x1)) in
    let wide = widths gap active h in
    let room : u < columns active = reach in
    let there : IsAt second (u - t) (i, j) = subst (λ (x : ℤ × ℤ). IsAt second (u - t) x) (same_cell active i j l) (at_range (cell_in_row active v) t (int_gap gap.x1 active.x1) (u - t) u (omega arith) (omega arith)) in
    let len : length first ≡ a = length-map-range_with_len (cell_in_row active v) 0 a in
    let both : IsAt (first ++ second) (length first + (u - t)) (i, j) = at_right first second (u - t) (i, j) there in
    let place : length first + (u - t) ≡ u - columns gap = omega (arith, len) in
    subst (λ (xs : List (ℤ × ℤ)). IsAt xs (u - columns gap) (i, j)) (sym (short_row gap active v h low high)) (subst (λ (n : ℕ). IsAt (first ++ second) n (i, j)) place both)
  where
    reach : int_gap active.x0 i < columns active
    reach = omega (arith, ints, l.west, l.east, gap_by active.x0 i, gap_by active.x0 (active.x1 +ℤ pos 1))

at_gap : (gap active : Region) (i j : ℤ) → HasGap gap active → Lies active i j → contains gap i j ≡ false →
    IsAt (flat_map (row_out gap active) (range_with_len 0 (rows active))) (listed_before gap active i j) (i, j)
unfolding listed_before columns rows
at_gap gap active i j h l out = by_row (cases_lt v a) (cases_lt v (a + rows gap)) (passed_is gap active i j h l)
  where
    u : ℕ
    u = int_gap active.x0 i

    v : ℕ
    v = int_gap active.y0 j

    a : ℕ
    a = int_gap active.y0 gap.y0

    row : ℕ → List (ℤ × ℤ)
    row = row_out gap active

    goal' : ℕ → Type 0
    goal' n = IsAt (flat_map row (range_with_len 0 (rows active))) n (i, j)

    place : ℕ
    place = v * columns active + u - columns gap * passed_rows gap i j

    stand : before row v + columns gap * min (v - a) (rows gap) ≡ v * columns active
    stand = before_short row (columns active) a (rows gap) (columns gap) (short_rows gap active h) v

    deep : v < rows active
    deep = omega (arith, ints, l.north, l.south, gap_by active.y0 j, gap_by active.y0 (active.y1 +ℤ pos 1))

    by_place : (u' : ℕ) → IsAt (row v) u' (i, j) → place ≡ before row v + u' → goal' place
    by_place u' there e = subst goal' (sym e) (at_row row v (rows active) u' (i, j) deep there)

    whole : IsAt (row v) u (i, j) → passed_rows gap i j ≡ min (v - a) (rows gap) → goal' place
    whole there e =
        by_place u there (place_by place v (columns active) (columns gap) (passed_rows gap i j) u (min (v - a) (rows gap)) (before row v) stand e refl)

    above_same : v < a → (min (v + 1 - a) (rows gap) ≡ min (v - a) (rows gap))
    above_same low = omega arith

    below_same : a + rows gap ≤ v → (min (v + 1 - a) (rows gap) ≡ min (v - a) (rows gap))
    below_same past' = omega arith

    Passed : Type 0
    Passed = ((passed_rows gap i j ≡ min (v - a) (rows gap)) × (i ≤ℤ gap.x1)) ⊎ ((passed_rows gap i j ≡ min (v + 1 - a) (rows gap)) × (gap.x1 <ℤ i))

    either : min (v + 1 - a) (rows gap) ≡ min (v - a) (rows gap) → Passed → passed_rows gap i j ≡ min (v - a) (rows gap)
    either same (inl p) = p.0
    either same (inr p) = p.0 ∙ same

    west_of : a ≤ v → v < a + rows gap → i ≤ℤ gap.x1 → u < int_gap active.x0 gap.x0
    west_of low high reach =
        elim (cases_lt u (int_gap active.x0 gap.x0)) [
          | inl west ↦ west
          | inr inside ↦ let w = h.within in
              let some = h.some in
              let there : Lies gap i j = record {
                west = omega (arith, ints, inside, l.west, w.west, gap_by active.x0 i, gap_by active.x0 gap.x0);
                east = reach;
                north = omega (arith, ints, low, l.north, w.north, gap_by active.y0 j, gap_by active.y0 gap.y0);
                south = omega (arith, ints, high, l.north, w.north, some.along, gap_by active.y0 j, gap_by active.y0 gap.y0, gap_by gap.y0 (gap.y1 +ℤ pos 1));
              } in
              absurd (true≢false (sym (lying gap i j there) ∙ out))
        ]

    east_of : gap.x1 <ℤ i → int_gap active.x0 gap.x0 + columns gap ≤ u
    east_of past' =
        let w = h.within in
        let some = h.some in
        omega (arith, ints, past', l.west, w.west, some.across, gap_by active.x0 i, gap_by active.x0 gap.x0, gap_by gap.x0 (gap.x1 +ℤ pos 1))

    short : a ≤ v → v < a + rows gap → Passed → goal' place
    short low high (inl p) = whole (in_short_row gap active i j h l low high (west_of low high p.1)) p.0
    short low high (inr p) =
        let more : min (v + 1 - a) (rows gap) ≡ min (v - a) (rows gap) + 1 = omega arith in
        let room = east_of p.1 in
        by_place (u - columns gap) (in_short_row_east gap active i j h l low high room)
        (place_past place v (columns active) (columns gap) (passed_rows gap i j) u (min (v - a) (rows gap)) (before row v) stand (p.0 ∙ more) refl (omega arith))

    by_row : (v < a) ⊎ (a ≤ v) → (v < a + rows gap) ⊎ (a + rows gap ≤ v) → Passed → goal' place
    by_row (inl low) other passed =
        whole (in_whole_row gap active i j l (whole_row gap active v h (inl low))) (either (above_same low) passed)
    by_row (inr high) (inl low) passed = short high low passed
    by_row (inr high) (inr past') passed =
        whole (in_whole_row gap active i j l (whole_row gap active v h (inr past'))) (either (below_same past') passed)

-- ---- no hole
none_out : (active : Region) (v : ℕ) → row_out empty_region active v ≡ map (cell_in_row active v) (range_with_len 0 (columns active))
unfolding row_out
none_out active v =
    filter_keeps (is_out empty_region) (cell_in_row active v) 0 (columns active) (λ u low high. is_out_when empty_region active v u (λ l. nowhere u l))
  where
    nowhere : (u : ℕ) → Lies empty_region (active.x0 +ℤ pos u) (active.y0 +ℤ pos v) → ⊥
    nowhere u l = omega (arith, ints, l.west, l.east)

none_rows : (active : Region) → HasShortRows (row_out empty_region active) (columns active) 0 0 0
none_rows active = record {
  whole_before = λ v low. absurd (omega arith);
  short = λ v low high. absurd (omega arith);
  whole_after = λ v past'. ap length (none_out active v) ∙ length-map-range_with_len (cell_in_row active v) 0 (columns active);
}

no_columns : columns empty_region ≡ 0
unfolding columns
no_columns = refl

no_area : area empty_region ≡ 0
unfolding area columns rows
no_area = refl

at_no_gap : (active : Region) (i j : ℤ) → Lies active i j → IsAt (flat_map (row_out empty_region active) (range_with_len 0 (rows active))) (listed_before empty_region active i j) (i, j)
unfolding listed_before rows
at_no_gap active i j l =
    let u = int_gap active.x0 i in
    let v = int_gap active.y0 j in
    let n = int_gap active.y0 (active.y1 +ℤ pos 1) in
    let deep : v < n = omega (arith, ints, l.north, l.south, gap_by active.y0 j, gap_by active.y0 (active.y1 +ℤ pos 1)) in
    let stand = before_short (row_out empty_region active) (columns active) 0 0 0 (none_rows active) v in
    let nothing : columns empty_region * passed_rows empty_region i j ≡ 0 * passed_rows empty_region i j = ap (λ n'. n' * passed_rows empty_region i j) no_columns in
    let place : v * columns active + u - columns empty_region * passed_rows empty_region i j ≡ before (row_out empty_region active) v + u = omega (arith, stand, nothing) in
    subst (λ (k : ℕ). IsAt (flat_map (row_out empty_region active) (range_with_len 0 n)) k (i, j)) (sym place)
    (at_row (row_out empty_region active) v n u (i, j) deep (in_whole_row empty_region active i j l (none_out active v)))

pub cell_listed : (e : ℕ) (finer active : Region) (i j : ℤ) → IsInner e finer active → Lies active i j → contains (hole finer) i j ≡ false →
    IsAt (cells_outside finer active) (listed_before (hole finer) active i j) (i, j)
cell_listed e finer active i j inner l out =
    subst (λ (xs : List (ℤ × ℤ)). IsAt xs (listed_before (hole finer) active i j) (i, j)) (sym (cells_are_rows finer active))
    (elim (hole_or_none finer) [
      | inl none ↦ subst (λ (gap : Region). IsAt (flat_map (row_out gap active) (range_with_len 0 (rows active))) (listed_before gap active i j) (i, j)) (sym none) (at_no_gap active i j l)
      | inr some ↦ at_gap (hole finer) active i j (record { some = some; within = hole_within e finer active inner some }) l out
    ])

count_gap : (gap active : Region) → HasGap gap active → length (flat_map (row_out gap active) (range_with_len 0 (rows active))) ≡ area active - area gap
unfolding before area rows
count_gap gap active h =
    let a = int_gap active.y0 gap.y0 in
    let b = columns gap in
    let stand : before (row_out gap active) (rows active) + b * min (rows active - a) (rows gap) ≡ rows active * columns active =
    before_short (row_out gap active) (columns active) a (rows gap) b (short_rows gap active h) (rows active) in
    let fits : b * min (rows active - a) (rows gap) ≡ b * rows gap = ap (λ n. b * n) reach in
    omega (arith, stand, fits)
  where
    reach : min (rows active - int_gap active.y0 gap.y0) (rows gap) ≡ rows gap
    reach =
        let w = h.within in
        let some = h.some in
        omega (arith, ints, w.north, w.south, some.along, gap_by active.y0 gap.y0, gap_by gap.y0 (gap.y1 +ℤ pos 1), gap_by active.y0 (active.y1 +ℤ pos 1))

count_no_gap : (active : Region) → length (flat_map (row_out empty_region active) (range_with_len 0 (rows active))) ≡ area active - area empty_region
unfolding before area
count_no_gap active =
    let stand = before_short (row_out empty_region active) (columns active) 0 0 0 (none_rows active) (rows active) in
    let nothing : columns empty_region * rows empty_region ≡ 0 = no_area in
    omega (arith, stand, nothing)

pub count_listed : (e : ℕ) (finer active : Region) → IsInner e finer active → length (cells_outside finer active) ≡ area active - area (hole finer)
count_listed e finer active inner =
    ap length (cells_are_rows finer active)
    ∙ elim (hole_or_none finer) [
      | inl none ↦ subst (λ (gap : Region). length (flat_map (row_out gap active) (range_with_len 0 (rows active))) ≡ area active - area gap) (sym none) (count_no_gap active)
      | inr some ↦ count_gap (hole finer) active (record { some = some; within = hole_within e finer active inner some })
    ]
