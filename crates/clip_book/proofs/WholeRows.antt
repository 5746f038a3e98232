-- Seven cells of a row, read from one tile and then from the next one.
use Rattle.std.proofs.Common.{◌≡◌, ℕ, ℤ, pos, ◌+◌, ◌-◌, ◌<◌, ◌≤◌, min, ◌⊎◌, ◌+ℤ◌, ◌*ℤ◌, ◌≤ℤ◌, Bool, true, List, ◌++◌, length, map, get_or, ap, sym, ◌∙◌, subst, inl, inr, arith}
use Rattle.std.specs.List.{range_with_len}
use Rattle.std.specs.Int.{w16, w32}
use Rattle.std.proofs.lemmas.Bool.{cases_order}
use Rattle.std.proofs.lemmas.Int.{ints, to_z-of_z, to_z_pos}
use Rattle.std.proofs.lemmas.List.{get_or_append_left, get_or-append_right}
use Rattle.std.proofs.lemmas.List.FromFn.{get_or-map-range_with_len, length-map-range_with_len}
use mathlib.Core.Path.{ap₂}
use mir.Val.{SFits, to_z, of_z}
use lib.Signed.{mag}
use Rattle.clip_regions.specs.FloorDivision.{floor_div, floor_rem}
use Rattle.clip_regions.specs.declared.region.Region.{Region}
use Rattle.clip_regions.specs.Regions.{contains}
use Rattle.clip_regions.proofs.Cells.{Lies, lies, lying}
use Rattle.torus_grid.proofs.Numbers.{eight_below, eight_is, rem_is}
use Rattle.four_point.proofs.AroundLemmas.{read_after}
use Rattle.torus_grid.specs.Grids.{Grid}
use Rattle.torus_grid.specs.Patches.{AreSevenHome, HasSixMore}
use Rattle.clip_book.specs.Tiles.{IsCorner, AreHome, HoldsRow, HoldsSquare}
use Rattle.clip_book.proofs.SeenRows.{place_fits, place_itself}

-- n lies before m, or not
before : (n m : ℕ) → (n < m) ⊎ (m ≤ n)
before n m =
    elim (cases_order n m) [
      | inl e ↦ inr (omega arith)
      | inr (inl l) ↦ inl l
      | inr (inr l) ↦ inr (omega arith)
    ]

-- the cells from column i to the end of its tile
abbrev pub run_of : (ℤ → ℤ) → ℤ → List ℤ
run_of f i = map (λ (n : ℕ). f (i +ℤ pos n)) (range_with_len 0 (8 - floor_rem i 8))

run_length : (f : ℤ → ℤ) (i : ℤ) → length (run_of f i) ≡ 8 - floor_rem i 8
run_length f i = length-map-range_with_len (λ (n : ℕ). f (i +ℤ pos n)) 0 (8 - floor_rem i 8)

run_at : (f : ℤ → ℤ) (i : ℤ) (n : ℕ) → n < 8 - floor_rem i 8 → get_or (run_of f i) n (pos 0) ≡ f (i +ℤ pos n)
run_at f i n l = get_or-map-range_with_len (λ (m : ℕ). f (i +ℤ pos m)) 0 (8 - floor_rem i 8) n n (pos 0) l (omega arith)

-- where a tile ends, the next one begins
next_begins : (i : ℤ) (w : ℕ) → w ≡ 8 - floor_rem i 8 → floor_rem (i +ℤ pos w) 8 ≡ 0
next_begins i w e =
    let below : floor_rem i 8 < 8 = eight_below i in
    let whole : i ≡ pos 8 *ℤ floor_div i 8 +ℤ pos (floor_rem i 8) = eight_is i in
    rem_is (i +ℤ pos w) (floor_div i 8 +ℤ pos 1) 0 (omega arith) (omega (arith, ints))

-- two runs of a row from column i on: the second begins where the first ends, or at the seventh cell before
pub record Runs (f : ℤ → ℤ) (i : ℤ) (m : ℕ) (west east : List ℤ) : Type 0 where
  pub first : west ≡ run_of f i
  pub second : east ≡ run_of f (i +ℤ pos m)
  pub few : m ≡ min (length west) 6

pub runs : (f : ℤ → ℤ → ℤ) (i j z y z' y' : ℤ) (m : ℕ) (west east : List ℤ) → z ≡ i → y ≡ j → z' ≡ i +ℤ pos m → y' ≡ j → west ≡ run_of (λ x. f x y) z → east ≡ run_of (λ x. f x y') z' → m ≡ min (length west) 6 → Runs (λ x. f x j) i m west east
runs f i j z y z' y' m west east column row column' row' e e' few = record {
  first = e ∙ ap₂ (λ (b a : ℤ). run_of (λ x. f x b) a) row column;
  second = e' ∙ ap₂ (λ (b a : ℤ). run_of (λ x. f x b) a) row' column';
  few = few;
}

-- both runs, one after the other, have seven cells
pub seven_long : (f : ℤ → ℤ) (i : ℤ) (m : ℕ) (west east : List ℤ) → Runs f i m west east → 7 ≤ length west + length east
seven_long f i m west east it =
    let few : m ≡ min (length west) 6 = it.few in
    let w : length west ≡ 8 - floor_rem i 8 = ap length it.first ∙ run_length f i in
    let w' : length east ≡ 8 - floor_rem (i +ℤ pos m) 8 = ap length it.second ∙ run_length f (i +ℤ pos m) in
    let below : floor_rem (i +ℤ pos m) 8 < 8 = eight_below (i +ℤ pos m) in
    elim (before 6 (length west)) [
      | inl h ↦ omega arith
      | inr h ↦ let same : m ≡ length west = omega arith in
          let begins : floor_rem (i +ℤ pos m) 8 ≡ 0 = next_begins i m (same ∙ w) in
          omega arith
    ]

-- each of the seven is the height of its cell
pub whole_at : (f : ℤ → ℤ) (i : ℤ) (m : ℕ) (west east : List ℤ) → Runs f i m west east → (a : ℕ) → a < 7 → get_or (west ++ east) a (pos 0) ≡ f (i +ℤ pos a)
whole_at f i m west east it a l =
    let few : m ≡ min (length west) 6 = it.few in
    let w : length west ≡ 8 - floor_rem i 8 = ap length it.first ∙ run_length f i in
    elim (before a (length west)) [
      | inl h ↦ get_or_append_left west east (pos 0) a h ∙ ap (λ (xs : List ℤ). get_or xs a (pos 0)) it.first ∙ run_at f i a (omega arith)
      | inr h ↦ let same : m ≡ length west = omega arith in
          let begins : floor_rem (i +ℤ pos m) 8 ≡ 0 = next_begins i m (same ∙ w) in
          let on : (i +ℤ pos m) +ℤ pos (a - m) ≡ i +ℤ pos a = omega (arith, ints) in
          get_or-append_right west east m a (pos 0) (sym same) (omega arith) ∙ ap (λ (xs : List ℤ). get_or xs (a - m) (pos 0)) it.second ∙ run_at f (i +ℤ pos m) (a - m) (omega arith) ∙ ap f on
    ]

-- the column so many after another, read again
pub column_read : (i : ℤ) (m : ℕ) → m ≤ 6 → IsCorner i → to_z w32 (of_z w32 (to_z w32 (of_z w32 i) +ℤ to_z w32 m)) ≡ i +ℤ pos m
column_read i m few corner =
    let small : m < 2147483648 = omega arith in
    ap (λ (x : ℤ). to_z w32 (of_z w32 (to_z w32 (of_z w32 i) +ℤ x))) (to_z_pos w32 m small) ∙ read_after i m (place_itself i corner) (place_fits i m few corner)

-- a height of 16 bits that was read
pub kept : (r v : ℤ) → mag r < 32768 → r ≡ v → to_z w16 (of_z w16 r) ≡ v
kept r v size e = let fits : SFits w16 r = record { sfits = size } in to_z-of_z w16 r fits ∙ e

-- a row that has its first and its seventh cell in a region has all seven there
row_held : (r : Region) (i j : ℤ) → contains r i j ≡ true → contains r (i +ℤ pos 6) j ≡ true → HoldsRow r i j
row_held r i j first last = λ a l.
    let from : Lies r i j = lies r i j first in
    let to : Lies r (i +ℤ pos 6) j = lies r (i +ℤ pos 6) j last in
    let west : r.x0 ≤ℤ i = from.west in
    let east : (i +ℤ pos 6) ≤ℤ r.x1 = to.east in
    lying r (i +ℤ pos a) j (record { west = omega (arith, ints); east = omega (arith, ints); north = from.north; south = from.south })

pub row_read : (r : Region) (i j : ℤ) (x y : Bool) → IsCorner i → x ≡ contains r (to_z w32 (of_z w32 i)) (to_z w32 (of_z w32 j)) → y ≡ contains r (to_z w32 (of_z w32 (to_z w32 (of_z w32 i) +ℤ pos 6))) (to_z w32 (of_z w32 j)) → x ≡ true → y ≡ true → HoldsRow r (to_z w32 (of_z w32 i)) (to_z w32 (of_z w32 j))
row_read r i j x y corner e e' t t' =
    let itself : to_z w32 (of_z w32 i) ≡ i = to_z-of_z w32 i (place_itself i corner) in
    let sixth : to_z w32 (of_z w32 (to_z w32 (of_z w32 i) +ℤ pos 6)) ≡ to_z w32 (of_z w32 i) +ℤ pos 6 = read_after i 6 (place_itself i corner) (place_fits i 6 (omega arith) corner) ∙ ap (λ (z : ℤ). z +ℤ pos 6) (sym itself) in
    row_held r (to_z w32 (of_z w32 i)) (to_z w32 (of_z w32 j)) (sym e ∙ t) (ap (λ (z : ℤ). contains r z (to_z w32 (of_z w32 j))) (sym sixth) ∙ sym e' ∙ t')

-- ---- seven by seven cells
-- those that have their first and their last cell in a region lie there
square_held : (r : Region) (i j : ℤ) → contains r i j ≡ true → contains r (i +ℤ pos 6) (j +ℤ pos 6) ≡ true → HoldsSquare r i j
square_held r i j first last = λ a b l m.
    let from : Lies r i j = lies r i j first in
    let to : Lies r (i +ℤ pos 6) (j +ℤ pos 6) = lies r (i +ℤ pos 6) (j +ℤ pos 6) last in
    let west : r.x0 ≤ℤ i = from.west in
    let east : (i +ℤ pos 6) ≤ℤ r.x1 = to.east in
    let north : r.y0 ≤ℤ j = from.north in
    let south : (j +ℤ pos 6) ≤ℤ r.y1 = to.south in
    lying r (i +ℤ pos a) (j +ℤ pos b) (record { west = omega (arith, ints); east = omega (arith, ints); north = omega (arith, ints); south = omega (arith, ints) })

sixth : (z : ℤ) → IsCorner z → to_z w32 (of_z w32 (to_z w32 (of_z w32 z) +ℤ pos 6)) ≡ z +ℤ pos 6
sixth z corner = read_after z 6 (place_itself z corner) (place_fits z 6 (omega arith) corner)

pub square_read : (r : Region) (i j : ℤ) (x y : Bool) → IsCorner i → IsCorner j → x ≡ contains r (to_z w32 (of_z w32 i)) (to_z w32 (of_z w32 j)) → y ≡ contains r (to_z w32 (of_z w32 (to_z w32 (of_z w32 i) +ℤ pos 6))) (to_z w32 (of_z w32 (to_z w32 (of_z w32 j) +ℤ pos 6))) → x ≡ true → y ≡ true → HoldsSquare r i j
square_read r i j x y column row e e' t t' =
    square_held r i j (ap₂ (λ (a b : ℤ). contains r a b) (sym (to_z-of_z w32 i (place_itself i column))) (sym (to_z-of_z w32 j (place_itself j row))) ∙ sym e ∙ t) (ap₂ (λ (a b : ℤ). contains r a b) (sym (sixth i column)) (sym (sixth j row)) ∙ sym e' ∙ t')

pub six_more : (z : ℤ) → IsCorner z → HasSixMore (to_z w32 (of_z w32 z))
six_more z corner =
    let h = corner.high in
    let near : HasSixMore z = grind (arith, ints) in
    subst HasSixMore (sym (to_z-of_z w32 z (place_itself z corner))) near

pub seven_home : (g : Grid) (r : Region) (i j : ℤ) → AreHome g r → HoldsSquare r i j → AreSevenHome g i j
seven_home g r i j home held = λ a b l m. home (i +ℤ pos a) (j +ℤ pos b) (held a b l m)
