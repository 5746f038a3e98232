-- Regions whose ends are moved, halved and doubled, and how many cells a region has.
use Rattle.std.proofs.Common.{◌≡◌, ℕ, ◌+◌, ◌*◌, ◌<◌, ◌≤◌, true, false, ◌&&◌, ◌↔◌, IsTrue, ℤ, pos, negsuc, ◌+ℤ◌, ◌-ℤ◌, ◌*ℤ◌, ◌≤ℤ◌, ◌<ℤ◌, List, [], ◌∷◌, map, length, unsigned_abs, refl, ap, sym, ◌∙◌, subst, inl, inr, arith, length-append}
use Rattle.std.proofs.lemmas.Int.{ints}
use Rattle.std.proofs.lemmas.Bool.{and_parts, and_from, or_cases, cases_Bool}
use Rattle.std.specs.Int.{int_gap}
use Rattle.std.specs.List.{flat_map, range_with_len}
use Rattle.std.proofs.lemmas.List.{length-map}
use Rattle.std.proofs.lemmas.List.FromFn.{length-range_with_len}
use mathlib.Core.Path.{ap₂}
use lib.Signed.{lt_z}
use mir.Syntax.{w32}
use mir.Val.{SFits, of_z, to_z}
use Rattle.clip_regions.proofs.Numbers.{read_back}
use Rattle.clip_regions.specs.declared.region.Region.{Region}
use Rattle.clip_regions.specs.FloorDivision.{floor_div, floor_rem}
use Rattle.clip_regions.specs.Regions.{contains, is_empty, spelled, erode, halve, double, holds, columns, rows, area, numbers_from, cells, IsWithin, HasEvenCorners}
use Rattle.clip_regions.proofs.Quotients.{quotient_and_rest, rem_below}
use Rattle.clip_regions.proofs.Cells.{same_test, Lies, lies, lying, HasCell, has_cell, not_empty, same_corners, spelled_other, spelled_cells, spelled_by, empty_within, Within, kept_within, kept_in, tested_lt}

-- ---- erosion, before its spelling
unfoldable pub eroded : Region → ℤ → Region
eroded r by = record { x0 = r.x0 +ℤ by; y0 = r.y0 +ℤ by; x1 = r.x1 -ℤ by; y1 = r.y1 -ℤ by }

pub erode_is : (r : Region) (by : ℤ) → erode r by ≡ spelled (eroded r by)
unfolding erode eroded
erode_is r by = refl

before_by : (r : Region) (by i j : ℤ) → pos 0 ≤ℤ by → Lies (eroded r by) i j → Lies r (i -ℤ by) (j -ℤ by)
unfolding eroded
before_by r by i j p h = record { west = omega (arith, ints); east = omega (arith, ints); north = omega (arith, ints); south = omega (arith, ints) }

after_by : (r : Region) (by i j : ℤ) → pos 0 ≤ℤ by → Lies (eroded r by) i j → Lies r (i +ℤ by) (j +ℤ by)
unfolding eroded
after_by r by i j p h = record { west = omega (arith, ints); east = omega (arith, ints); north = omega (arith, ints); south = omega (arith, ints) }

between : (r : Region) (by i j : ℤ) → Lies r (i -ℤ by) (j -ℤ by) → Lies r (i +ℤ by) (j +ℤ by) → Lies (eroded r by) i j
unfolding eroded
between r by i j h k = record { west = omega (arith, ints); east = omega (arith, ints); north = omega (arith, ints); south = omega (arith, ints) }

eroded_cells : (r : Region) (by i j : ℤ) → pos 0 ≤ℤ by → contains (eroded r by) i j ≡ (contains r (i -ℤ by) (j -ℤ by) && contains r (i +ℤ by) (j +ℤ by))
eroded_cells r by i j p =
    same_test (contains (eroded r by) i j) (contains r (i -ℤ by) (j -ℤ by) && contains r (i +ℤ by) (j +ℤ by)) (λ (t : contains (eroded r by) i j ≡ true). let h : Lies (eroded r by) i j = lies (eroded r by) i j t in and_from (contains r (i -ℤ by) (j -ℤ by)) (contains r (i +ℤ by) (j +ℤ by)) (lying r (i -ℤ by) (j -ℤ by) (before_by r by i j p h)) (lying r (i +ℤ by) (j +ℤ by) (after_by r by i j p h))) (λ (t : (contains r (i -ℤ by) (j -ℤ by) && contains r (i +ℤ by) (j +ℤ by)) ≡ true). let parts : (contains r (i -ℤ by) (j -ℤ by) ≡ true) × (contains r (i +ℤ by) (j +ℤ by) ≡ true) = and_parts (contains r (i -ℤ by) (j -ℤ by)) (contains r (i +ℤ by) (j +ℤ by)) t in lying (eroded r by) i j (between r by i j (lies r (i -ℤ by) (j -ℤ by) parts.0) (lies r (i +ℤ by) (j +ℤ by) parts.1)))

pub erode_cells : (r : Region) (by : ℤ) (q : Region) → pos 0 ≤ℤ by → q ≡ erode r by → (i j : ℤ) → contains q i j ≡ (contains r (i -ℤ by) (j -ℤ by) && contains r (i +ℤ by) (j +ℤ by))
erode_cells r by q p e i j =
    ap (λ (s : Region). contains s i j) (e ∙ erode_is r by) ∙ spelled_cells (eroded r by) i j ∙ eroded_cells r by i j p

eroded_in : (r : Region) (by : ℤ) → pos 0 ≤ℤ by → Within r (eroded r by)
unfolding eroded
eroded_in r by p = record { west = omega (arith, ints); east = omega (arith, ints); north = omega (arith, ints); south = omega (arith, ints) }

pub erode_within : (n : ℕ) (r : Region) (by : ℤ) (q : Region) → 1 ≤ n → pos 0 ≤ℤ by → q ≡ erode r by → IsWithin n r → IsWithin n q
erode_within n r by q least p e h = subst (IsWithin n) (sym (e ∙ erode_is r by)) (kept_within n r (eroded r by) least h (eroded_in r by p))

pub erode_in : (r : Region) (by : ℤ) (q : Region) → pos 0 ≤ℤ by → q ≡ erode r by → holds r q ≡ true
erode_in r by q p e = subst (λ (s : Region). holds r s ≡ true) (sym (e ∙ erode_is r by)) (kept_in r (eroded r by) (eroded_in r by p))

-- ---- halves, before their spelling
unfoldable pub halved : Region → Region
halved r = record { x0 = floor_div r.x0 2; y0 = floor_div r.y0 2; x1 = floor_div r.x1 2; y1 = floor_div r.y1 2 }

pub half_is : (z q : ℤ) → SFits w32 z → SFits w32 q → q ≡ floor_div (to_z w32 (of_z w32 z)) 2 → to_z w32 (of_z w32 q) ≡ floor_div z 2
half_is z q fz fq e = read_back q fq ∙ e ∙ ap (λ (v : ℤ). floor_div v 2) (read_back z fz)

pub halve_is : (r : Region) → halve r ≡ spelled (halved r)
unfolding halve halved
halve_is r = refl

-- twice the half is the number, where that is even
twice_half : (z : ℤ) → floor_rem z 2 ≡ 0 → z ≡ pos 2 *ℤ floor_div z 2
twice_half z e =
    let whole : z ≡ pos 2 *ℤ floor_div z 2 +ℤ pos (floor_rem z 2) = quotient_and_rest z 2 (omega arith) in
    omega (arith, ints)

-- each corner is twice that of h
record Twice (h r : Region) : Type 0 where
  x0 : r.x0 ≡ pos 2 *ℤ h.x0
  y0 : r.y0 ≡ pos 2 *ℤ h.y0
  x1 : r.x1 ≡ pos 2 *ℤ h.x1
  y1 : r.y1 ≡ pos 2 *ℤ h.y1

twice_halved : (r : Region) → HasEvenCorners r → Twice (halved r) r
unfolding halved
twice_halved r even = record {
  x0 = twice_half r.x0 even.x0;
  y0 = twice_half r.y0 even.y0;
  x1 = twice_half r.x1 even.x1;
  y1 = twice_half r.y1 even.y1;
}

lies_at_half : (h r : Region) (i j : ℤ) → Twice h r → Lies r (pos 2 *ℤ i) (pos 2 *ℤ j) → Lies h i j
lies_at_half h r i j t l = record { west = omega (arith, ints); east = omega (arith, ints); north = omega (arith, ints); south = omega (arith, ints) }

lies_at_twice : (h r : Region) (i j : ℤ) → Twice h r → Lies h i j → Lies r (pos 2 *ℤ i) (pos 2 *ℤ j)
lies_at_twice h r i j t l = record { west = omega (arith, ints); east = omega (arith, ints); north = omega (arith, ints); south = omega (arith, ints) }

twice_cells : (h r : Region) → Twice h r → (i j : ℤ) → contains r (pos 2 *ℤ i) (pos 2 *ℤ j) ≡ contains h i j
twice_cells h r t i j =
    same_test (contains r (pos 2 *ℤ i) (pos 2 *ℤ j)) (contains h i j) (λ (e : contains r (pos 2 *ℤ i) (pos 2 *ℤ j) ≡ true). lying h i j (lies_at_half h r i j t (lies r (pos 2 *ℤ i) (pos 2 *ℤ j) e))) (λ (e : contains h i j ≡ true). lying r (pos 2 *ℤ i) (pos 2 *ℤ j) (lies_at_twice h r i j t (lies h i j e)))

pub halve_cells : (r q : Region) → HasEvenCorners r → q ≡ halve r → (i j : ℤ) → contains q i j ≡ contains r (pos 2 *ℤ i) (pos 2 *ℤ j)
halve_cells r q even e i j =
    ap (λ (s : Region). contains s i j) (e ∙ halve_is r) ∙ spelled_cells (halved r) i j ∙ sym (twice_cells (halved r) r (twice_halved r even) i j)

half_within : (n : ℕ) (h r : Region) → Twice h r → IsWithin n r → IsWithin n h
half_within n h r t w = record {
  x0_low = omega (arith, ints);
  x0_high = omega (arith, ints);
  y0_low = omega (arith, ints);
  y0_high = omega (arith, ints);
  x1_low = omega (arith, ints);
  x1_high = omega (arith, ints);
  y1_low = omega (arith, ints);
  y1_high = omega (arith, ints);
}

pub halve_within : (n : ℕ) (r q : Region) → 1 ≤ n → HasEvenCorners r → q ≡ halve r → IsWithin n r → IsWithin n q
halve_within n r q least even e w =
    subst (IsWithin n) (sym (e ∙ halve_is r)) (spelled_by (IsWithin n) (halved r) (empty_within n least) (λ (some : HasCell (halved r)). half_within n (halved r) r (twice_halved r even) w))

half_has_cell : (h r : Region) → Twice h r → HasCell r → HasCell h
half_has_cell h r t some = record { across = omega (arith, ints); along = omega (arith, ints) }

-- ---- doubles, before their spelling
unfoldable pub doubled : Region → Region
doubled r = record { x0 = pos 2 *ℤ r.x0; y0 = pos 2 *ℤ r.y0; x1 = pos 2 *ℤ r.x1; y1 = pos 2 *ℤ r.y1 }

pub double_is : (r : Region) → double r ≡ spelled (doubled r)
unfolding double doubled
double_is r = refl

twice_doubled : (r : Region) → Twice r (doubled r)
unfolding doubled
twice_doubled r = record { x0 = refl; y0 = refl; x1 = refl; y1 = refl }

pub double_cells : (r q : Region) → q ≡ double r → (i j : ℤ) → contains q (pos 2 *ℤ i) (pos 2 *ℤ j) ≡ contains r i j
double_cells r q e i j =
    ap (λ (s : Region). contains s (pos 2 *ℤ i) (pos 2 *ℤ j)) (e ∙ double_is r) ∙ spelled_cells (doubled r) (pos 2 *ℤ i) (pos 2 *ℤ j) ∙ twice_cells r (doubled r) (twice_doubled r) i j

twice_within : (n m : ℕ) (h r : Region) → 2 * n ≤ m → Twice h r → IsWithin n h → IsWithin m r
twice_within n m h r le t w = record {
  x0_low = omega (arith, ints);
  x0_high = omega (arith, ints);
  y0_low = omega (arith, ints);
  y0_high = omega (arith, ints);
  x1_low = omega (arith, ints);
  x1_high = omega (arith, ints);
  y1_low = omega (arith, ints);
  y1_high = omega (arith, ints);
}

pub double_within : (n m : ℕ) (r q : Region) → 1 ≤ m → 2 * n ≤ m → q ≡ double r → IsWithin n r → IsWithin m q
double_within n m r q least le e w =
    subst (IsWithin m) (sym (e ∙ double_is r)) (spelled_by (IsWithin m) (doubled r) (empty_within m least) (λ (some : HasCell (doubled r)). twice_within n m r (doubled r) le (twice_doubled r) w))

twice_has_cell : (h r : Region) → Twice h r → HasCell h → HasCell r
twice_has_cell h r t some = record { across = omega (arith, ints); along = omega (arith, ints) }

double_where_cell : (r : Region) → HasCell r → double r ≡ doubled r
double_where_cell r some =
    double_is r ∙ spelled_other (doubled r) (not_empty (doubled r) (twice_has_cell r (doubled r) (twice_doubled r) some))

even_twice : (z : ℤ) → floor_rem (pos 2 *ℤ z) 2 ≡ 0
even_twice z =
    let below : floor_rem (pos 2 *ℤ z) 2 < 2 = rem_below (pos 2 *ℤ z) 2 (omega arith) in
    let whole : pos 2 *ℤ z ≡ pos 2 *ℤ floor_div (pos 2 *ℤ z) 2 +ℤ pos (floor_rem (pos 2 *ℤ z) 2) = quotient_and_rest (pos 2 *ℤ z) 2 (omega arith) in
    omega (arith, ints)

pub doubled_even : (r : Region) → HasEvenCorners (doubled r)
unfolding doubled
doubled_even r = record { x0 = even_twice r.x0; y0 = even_twice r.y0; x1 = even_twice r.x1; y1 = even_twice r.y1 }

pub double_even : (r q : Region) → q ≡ double r → is_empty r ≡ false → HasEvenCorners q
double_even r q e some = subst HasEvenCorners (sym (e ∙ double_where_cell r (has_cell r some))) (doubled_even r)

doubled_half : (h r : Region) → Twice h r → doubled h ≡ r
unfolding doubled
doubled_half h r t = same_corners (doubled h) r (sym t.x0) (sym t.y0) (sym t.x1) (sym t.y1)

pub double_halve : (r q : Region) → HasEvenCorners r → q ≡ halve r → is_empty r ≡ false → double q ≡ r
double_halve r q even e some =
    let t : Twice (halved r) r = twice_halved r even in
    let cell : HasCell (halved r) = half_has_cell (halved r) r t (has_cell r some) in
    let half : q ≡ halved r = e ∙ halve_is r ∙ spelled_other (halved r) (not_empty (halved r) cell) in
    ap double half ∙ double_where_cell (halved r) cell ∙ doubled_half (halved r) r t

-- ---- how many cells
pub gap_is : (a b : ℤ) → a ≤ℤ b → pos (int_gap a b) ≡ b -ℤ a
gap_is (pos a) (pos b) h = omega (arith, ints)
gap_is (pos a) (negsuc b) h = absurd (omega (arith, ints))
gap_is (negsuc a) (pos b) h = omega (arith, ints)
gap_is (negsuc a) (negsuc b) h = omega (arith, ints)

no_gap : (a b : ℤ) → b ≤ℤ a → int_gap a b ≡ 0
no_gap (pos a) (pos b) h = omega (arith, ints)
no_gap (pos a) (negsuc b) h = refl
no_gap (negsuc a) (pos b) h = absurd (omega (arith, ints))
no_gap (negsuc a) (negsuc b) h = omega (arith, ints)

pub columns_are : (r : Region) → HasCell r → pos (columns r) ≡ r.x1 +ℤ pos 1 -ℤ r.x0
unfolding columns
columns_are r some = gap_is r.x0 (r.x1 +ℤ pos 1) (omega (arith, ints))

pub rows_are : (r : Region) → HasCell r → pos (rows r) ≡ r.y1 +ℤ pos 1 -ℤ r.y0
unfolding rows
rows_are r some = gap_is r.y0 (r.y1 +ℤ pos 1) (omega (arith, ints))

size_is : (z : ℤ) (n : ℕ) → z ≡ pos n → unsigned_abs z ≡ n
size_is z n e = ap unsigned_abs e

pub area_of : (r : Region) (across along : ℤ) → HasCell r → across ≡ r.x1 -ℤ r.x0 +ℤ pos 1 → along ≡ r.y1 -ℤ r.y0 +ℤ pos 1 → unsigned_abs across * unsigned_abs along ≡ area r
unfolding area
area_of r across along some e f =
    let c : pos (columns r) ≡ r.x1 +ℤ pos 1 -ℤ r.x0 = columns_are r some in
    let d : pos (rows r) ≡ r.y1 +ℤ pos 1 -ℤ r.y0 = rows_are r some in
    let e' : across ≡ pos (columns r) = omega (arith, ints) in
    let f' : along ≡ pos (rows r) = omega (arith, ints) in
    ap₂ (λ (x y : ℕ). x * y) (size_is across (columns r) e') (size_is along (rows r) f')

no_columns : (r : Region) → r.x1 <ℤ r.x0 → columns r ≡ 0
unfolding columns
no_columns r h = no_gap r.x0 (r.x1 +ℤ pos 1) (omega (arith, ints))

no_rows : (r : Region) → r.y1 <ℤ r.y0 → rows r ≡ 0
unfolding rows
no_rows r h = no_gap r.y0 (r.y1 +ℤ pos 1) (omega (arith, ints))

pub no_area : (r : Region) → is_empty r ≡ true → area r ≡ 0
unfolding area is_empty
no_area r e =
    elim (or_cases (lt_z r.x1 r.x0) (lt_z r.y1 r.y0) e) [
      | inl h ↦ let none : columns r ≡ 0 = no_columns r (tested_lt r.x1 r.x0 h) in rw none (omega arith)
      | inr h ↦ let none : rows r ≡ 0 = no_rows r (tested_lt r.y1 r.y0 h) in rw none (omega arith)
    ]

some_product : (a b : ℕ) → 0 < a → 0 < b → a * b ≡ 0 → ⊥
some_product a b p q e = grind arith

pub some_area : (r : Region) → HasCell r → area r ≡ 0 → ⊥
unfolding area
some_area r some e =
    let c : pos (columns r) ≡ r.x1 +ℤ pos 1 -ℤ r.x0 = columns_are r some in
    let d : pos (rows r) ≡ r.y1 +ℤ pos 1 -ℤ r.y0 = rows_are r some in
    some_product (columns r) (rows r) (omega (arith, ints)) (omega (arith, ints)) e

pub area_none : (r : Region) (n : ℕ) → n ≡ area r → IsTrue (is_empty r) ↔ (n ≡ 0)
area_none r n e =
    (λ (t : is_empty r ≡ true). e ∙ no_area r t, λ (z : n ≡ 0). elim (cases_Bool (is_empty r)) [ inl t ↦ t | inr f ↦ absurd (some_area r (has_cell r f) (sym e ∙ z)) ])

-- rows of one length
pub length_rows : {A B : Type 0} (row : A → List B) (n : ℕ) → ((j : A) → length (row j) ≡ n) → (js : List A) → length (flat_map row js) ≡ n * length js
length_rows row n each [] = omega arith
length_rows row n each (j ∷ js) =
    length-append (row j) (flat_map row js) ∙ ap₂ (λ (x y : ℕ). x + y) (each j) (length_rows row n each js) ∙ omega arith

pub length_numbers : (a : ℤ) (n : ℕ) → length (numbers_from a n) ≡ n
length_numbers a n = length-map (range_with_len 0 n) (λ (i : ℕ). a +ℤ pos i) ∙ length-range_with_len 0 n

pub length_cells : (r : Region) → area r ≡ length (cells r)
unfolding area
length_cells r =
    sym (length_rows (λ (j : ℤ). map (λ (i : ℤ). (i, j)) (numbers_from r.x0 (columns r))) (columns r) (λ (j : ℤ). length-map (numbers_from r.x0 (columns r)) (λ (i : ℤ). (i, j)) ∙ length_numbers r.x0 (columns r)) (numbers_from r.y0 (rows r)) ∙ ap (λ (x : ℕ). columns r * x) (length_numbers r.y0 (rows r)))
