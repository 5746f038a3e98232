-- Which cells a small region has.
use Rattle.std.proofs.Common.{◌≡◌, Bool, true, false, ◌&&◌, ℕ, ◌+◌, ◌*◌, ◌/◌, ◌%◌, ◌<◌, ℤ, pos, nat_abs, ◌+ℤ◌, ◌-ℤ◌, ◌≤ℤ◌, ◌<ℤ◌, List, get_or, set, length, cond, ap, sym, ◌∙◌, subst, ⊎_elim, arith, get_or-set_same, get_or-set_other}
use Rattle.std.proofs.lemmas.Bool.{cases_eq}
use Rattle.std.specs.Int.{w16}
use Rattle.std.proofs.lemmas.Int.{to_z-of_z}
use mir.Val.{SFits, to_z, of_z}
use lib.Signed.{mag}
use Rattle.four_point.specs.Patches.{IsOfBlock}
use Rattle.four_point.specs.Steps.{value_of, IsNear}
use Rattle.block_heights.specs.declared.block.PieceFault.{PieceFault}
use Rattle.block_heights.specs.declared.block.PieceFault.TheVariants.{BadBlock, OutOfRange}
use Rattle.std.proofs.lemmas.Int.{ints}
use Rattle.std.proofs.lemmas.Bool.{and_parts, and_from}
use Rattle.std.proofs.lemmas.Nat.{div_below, mod_below, div-mul-add, mod-mul-add, div-add-mod'}
use lib.Signed.{le_z}
use mathlib.Core.Path.{ap₂}
use Rattle.clip_regions.specs.declared.region.Region.{Region}
use Rattle.clip_regions.specs.Regions.{contains, columns, rows}
use Rattle.block_heights.specs.Rows.{signed_cell, table_code, cell_of}
use Rattle.block_heights.specs.Pieces.{IsCellAt, IsPieceUpTo, AreNearUpTo, IsOutCell, HasOut, IsSmall, Lies, within, plain_height, column_of, row_of}
use Rattle.terrain_model.specs.Tile.{raw_sample}
use Rattle.clip_regions.proofs.Cells.{tested_le, le_tested}
use Rattle.clip_regions.proofs.Sizes.{gap_is}

pub lies : (r : Region) (i j : ℤ) → contains r i j ≡ true → Lies r i j
unfolding contains
lies r i j e =
    let parts = and_parts (le_z r.x0 i && le_z i r.x1) (le_z r.y0 j && le_z j r.y1) e in
    let across = and_parts (le_z r.x0 i) (le_z i r.x1) parts.0 in
    let down = and_parts (le_z r.y0 j) (le_z j r.y1) parts.1 in
    record {
      west = tested_le r.x0 i across.0;
      east = tested_le i r.x1 across.1;
      north = tested_le r.y0 j down.0;
      south = tested_le j r.y1 down.1;
    }

pub lying : (r : Region) (i j : ℤ) → Lies r i j → contains r i j ≡ true
unfolding contains
lying r i j h =
    and_from (le_z r.x0 i && le_z i r.x1) (le_z r.y0 j && le_z j r.y1)
    (and_from (le_z r.x0 i) (le_z i r.x1) (le_tested r.x0 i h.west) (le_tested i r.x1 h.east))
    (and_from (le_z r.y0 j) (le_z j r.y1) (le_tested r.y0 j h.north) (le_tested j r.y1 h.south))

-- ---- columns and rows
pub columns_is : (r : Region) → r.x0 ≤ℤ r.x1 → pos (columns r) ≡ (r.x1 +ℤ pos 1) -ℤ r.x0
unfolding columns
columns_is r h = gap_is r.x0 (r.x1 +ℤ pos 1) (omega (arith, ints))

pub rows_is : (r : Region) → r.y0 ≤ℤ r.y1 → pos (rows r) ≡ (r.y1 +ℤ pos 1) -ℤ r.y0
unfolding rows
rows_is r h = gap_is r.y0 (r.y1 +ℤ pos 1) (omega (arith, ints))

-- ---- tables
pub signed_cell_at : (table : List (List ℤ)) (x : ℤ) (y : ℤ) (a b : ℕ) → x ≡ pos a → y ≡ pos b → signed_cell table x y ≡ cell_of table a b
unfolding signed_cell
signed_cell_at table x y a b e f = ap₂ (signed_cell table) e f

pub table_code_at : (region : Region) (table : List (List ℤ)) (i j : ℤ) (a b : ℕ) → i ≡ region.x0 +ℤ pos a → j ≡ region.y0 +ℤ pos b → table_code region table i j ≡ cell_of table a b
table_code_at region table i j a b e f = signed_cell_at table (i -ℤ region.x0) (j -ℤ region.y0) a b (omega (arith, ints)) (omega (arith, ints))

pub abs_of : (z : ℤ) (a : ℕ) → z ≡ pos a → nat_abs z ≡ a
abs_of z a e = ap nat_abs e

pub plain_at_place : (bytes : List ℕ) (region : Region) (i j : ℤ) (a b : ℕ) → i ≡ region.x0 +ℤ pos a → j ≡ region.y0 +ℤ pos b → plain_height bytes region i j ≡ raw_sample bytes (b * columns region + a)
unfolding plain_height
plain_at_place bytes region i j a b e f =
    let column : nat_abs (i -ℤ region.x0) ≡ a = abs_of (i -ℤ region.x0) a (omega (arith, ints)) in
    let row : nat_abs (j -ℤ region.y0) ≡ b = abs_of (j -ℤ region.y0) b (omega (arith, ints)) in
    ap₂ (λ (m n : ℕ). raw_sample bytes (m * columns region + n)) row column

pub within_inside : (inside : Region) (heights : ℤ → ℤ → ℤ) (i j : ℤ) → contains inside i j ≡ true → within inside heights i j ≡ heights i j
unfolding within
within_inside inside heights i j e = ap (λ (t : Bool). cond t (heights i j) (pos 0)) e

pub within_outside : (inside : Region) (heights : ℤ → ℤ → ℤ) (i j : ℤ) → contains inside i j ≡ false → within inside heights i j ≡ pos 0
unfolding within
within_outside inside heights i j e = ap (λ (t : Bool). cond t (heights i j) (pos 0)) e

-- the cell with a number is one of the region's
pub cell_lies : (region : Region) (k : ℕ) → IsSmall region → k < columns region * rows region → Lies region (column_of region k) (row_of region k)
cell_lies region k small h =
    let across = columns_is region small.some_columns in
    let down = rows_is region small.some_rows in
    let some = small.some_columns in
    let some_rows = small.some_rows in
    let wide : 0 < columns region = omega (arith, ints) in
    let column : k % columns region < columns region = mod_below k (columns region) wide in
    let row : k / columns region < rows region = div_below k (columns region) (rows region) wide (omega arith) in
    record {
      west = omega (arith, ints);
      east = omega (arith, ints);
      north = omega (arith, ints);
      south = omega (arith, ints);
    }

-- ---- one cell after another
pub cell_starts : (region : Region) → IsSmall region → IsCellAt region 0 region.x0 region.y0
cell_starts region small =
    let across = columns_is region small.some_columns in
    let some = small.some_columns in
    let w = columns region in
    let wide : 0 < columns region = omega (arith, ints) in
    let zero_is : 0 * w + 0 ≡ 0 = omega arith in
    let column : 0 % w ≡ 0 = ap (λ (n : ℕ). n % w) (sym zero_is) ∙ mod-mul-add 0 w 0 wide in
    let row : 0 / w ≡ 0 = ap (λ (n : ℕ). n / w) (sym zero_is) ∙ div-mul-add 0 w 0 wide in
    record { column = omega (arith, ints, column); row = omega (arith, ints, row) }

pub cell_next : (region : Region) (k : ℕ) (i j x : ℤ) → IsSmall region → i ≡ column_of region k → j ≡ row_of region k → i <ℤ region.x1 → x ≡ i +ℤ pos 1 → IsCellAt region (k + 1) x j
cell_next region k i j x small e f inside next =
    let across = columns_is region small.some_columns in
    let some = small.some_columns in
    let w = columns region in
    let wide : 0 < columns region = omega (arith, ints) in
    let below : k % w + 1 < w = omega (arith, ints, e, across, inside) in
    let whole : k + 1 ≡ k / w * w + (k % w + 1) = (let d = div-add-mod' k w in omega (arith, d)) in
    let column : (k + 1) % w ≡ k % w + 1 = ap (λ (n : ℕ). n % w) whole ∙ mod-mul-add (k / w) w (k % w + 1) below in
    let row : (k + 1) / w ≡ k / w = ap (λ (n : ℕ). n / w) whole ∙ div-mul-add (k / w) w (k % w + 1) below in
    record { column = omega (arith, ints, e, next, column); row = f ∙ ap (λ (n : ℕ). region.y0 +ℤ pos n) (sym row) }

pub cell_wraps : (region : Region) (k : ℕ) (i j y : ℤ) → IsSmall region → i ≡ column_of region k → j ≡ row_of region k → region.x1 ≤ℤ i → y ≡ j +ℤ pos 1 → IsCellAt region (k + 1) region.x0 y
cell_wraps region k i j y small e f last next =
    let across = columns_is region small.some_columns in
    let some = small.some_columns in
    let w = columns region in
    let wide : 0 < columns region = omega (arith, ints) in
    let below : k % w < w = mod_below k w wide in
    let ends : k % w + 1 ≡ w = omega (arith, ints, e, across, last, below) in
    let more : (k / w + 1) * w + 0 ≡ k / w * w + w = grind arith in
    let whole : k + 1 ≡ (k / w + 1) * w + 0 = (let d = div-add-mod' k w in omega (arith, d, ends, more)) in
    let column : (k + 1) % w ≡ 0 = ap (λ (n : ℕ). n % w) whole ∙ mod-mul-add (k / w + 1) w 0 wide in
    let row : (k + 1) / w ≡ k / w + 1 = ap (λ (n : ℕ). n / w) whole ∙ div-mul-add (k / w + 1) w 0 wide in
    record { column = omega (arith, ints, column); row = omega (arith, ints, f, next, row) }

pub lies_same : (r : Region) (i j a b : ℤ) → a ≡ i → b ≡ j → Lies r i j → Lies r a b
lies_same r i j a b e f h = subst (λ (x : ℤ). Lies r x b) (sym e) (subst (λ (y : ℤ). Lies r i y) (sym f) h)

pub same16 : (z : ℤ) → mag z < 32768 → to_z w16 (of_z w16 z) ≡ z
same16 z size = let fits : SFits w16 z = record { sfits = size } in to_z-of_z w16 z fits

pub between : (first a b i : ℤ) → IsOfBlock first a → IsOfBlock first b → a ≤ℤ i → i ≤ℤ b → IsOfBlock first i
between first a b i p q l h =
    let pl = p.low in
    let qh = q.high in
    record { low = omega (arith, ints); high = omega (arith, ints) }

-- one more height of a piece
pub piece_more : (n : ℕ) (heights : ℤ → ℤ → ℤ) (region : Region) (out : List ℤ) (x : ℤ) → n < length out → x ≡ heights (column_of region n) (row_of region n) → IsPieceUpTo n heights region out → IsPieceUpTo (n + 1) heights region (set out n x)
piece_more n heights region out x inside e before = λ k h.
    ⊎_elim
    (λ (same : k ≡ n).
    subst (λ (m : ℕ). get_or (set out n x) m (pos 0) ≡ heights (column_of region m) (row_of region m)) (sym same) (get_or-set_same out n x (pos 0) inside ∙ e))
    (λ (other : k ≡ n → ⊥). get_or-set_other out n k x (pos 0) other ∙ before k (omega arith))
    (cases_eq k n)

pub near_more : (n : ℕ) (coarser : ℤ → ℤ → ℤ) (step : ℕ) (code : ℤ → ℤ → ℤ) (inside cells : Region) → (contains inside (column_of cells n) (row_of cells n) ≡ true → IsNear step (value_of coarser step (column_of cells n) (row_of cells n) (code (column_of cells n) (row_of cells n)))) → AreNearUpTo n coarser step code inside cells → AreNearUpTo (n + 1) coarser step code inside cells
near_more n coarser step code inside cells here before = λ k h.
    ⊎_elim
    (λ (same : k ≡ n).
    subst (λ (m : ℕ). contains inside (column_of cells m) (row_of cells m) ≡ true → IsNear step (value_of coarser step (column_of cells m) (row_of cells m) (code (column_of cells m) (row_of cells m)))) (sym same) here)
    (λ (other : k ≡ n → ⊥). before k (omega arith))
    (cases_eq k n)

pub out_at : (coarser : ℤ → ℤ → ℤ) (step : ℕ) (code : ℤ → ℤ → ℤ) (inside cells : Region) (k n : ℕ) (fault : PieceFault) → k < n → IsOutCell coarser step code inside (column_of cells k) (row_of cells k) fault → AreNearUpTo k coarser step code inside cells → HasOut coarser step code inside cells n fault
out_at coarser step code inside cells k n (BadBlock fault) below out near = out
out_at coarser step code inside cells k n (OutOfRange i j value) below out near = (
  k,
  below,
  record {
    column = out.0;
    row = out.1;
    within_block = subst (λ (x : ℤ). contains inside x j ≡ true) (sym out.0) (subst (λ (y : ℤ). contains inside (column_of cells k) y ≡ true) (sym out.1) out.2);
    value_is = out.3 ∙ ap₂ (λ (x y : ℤ). value_of coarser step x y (code x y)) (sym out.0) (sym out.1);
    far = out.4;
    first = near;
  },
)

pub out_cell_at : (coarser : ℤ → ℤ → ℤ) (step : ℕ) (code : ℤ → ℤ → ℤ) (inside : Region) (i j a b : ℤ) (fault : PieceFault) → i ≡ a → j ≡ b → IsOutCell coarser step code inside i j fault → IsOutCell coarser step code inside a b fault
out_cell_at coarser step code inside i j a b fault e f h =
    subst (λ (x : ℤ). IsOutCell coarser step code inside x b fault) e (subst (λ (y : ℤ). IsOutCell coarser step code inside i y fault) f h)

pub near_at : (coarser : ℤ → ℤ → ℤ) (step : ℕ) (code : ℤ → ℤ → ℤ) (inside : Region) (i j a b : ℤ) → i ≡ a → j ≡ b → (contains inside i j ≡ true → IsNear step (value_of coarser step i j (code i j))) → contains inside a b ≡ true → IsNear step (value_of coarser step a b (code a b))
near_at coarser step code inside i j a b e f h =
    subst (λ (x : ℤ). contains inside x b ≡ true → IsNear step (value_of coarser step x b (code x b))) e
    (subst (λ (y : ℤ). contains inside i y ≡ true → IsNear step (value_of coarser step i y (code i y))) f h)

pub cell_same : (region : Region) (k : ℕ) (i j x y : ℤ) → x ≡ i → y ≡ j → IsCellAt region k i j → IsCellAt region k x y
cell_same region k i j x y e f cell = record { column = e ∙ cell.column; row = f ∙ cell.row }

pub cell_inside : (region : Region) (k : ℕ) (i j : ℤ) → IsSmall region → k < columns region * rows region → IsCellAt region k i j → Lies region i j
cell_inside region k i j small h cell = lies_same region (column_of region k) (row_of region k) i j cell.column cell.row (cell_lies region k small h)
