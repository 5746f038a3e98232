-- The cells of a region row by row, and what a column of a row says of its cell.
use Rattle.std.proofs.Common.{◌≡◌, true, ℕ, ◌+◌, ◌*◌, ◌/◌, ◌%◌, ◌<◌, ◌≤◌, ℤ, pos, ◌+ℤ◌, ◌*ℤ◌, List, [], get_or, refl, sym, ap, ◌∙◌, subst, arith, mul_comm}
use Rattle.std.proofs.Math.Nat.{mul-le-mul_right}
use Rattle.std.proofs.lemmas.Nat.{div-mul-add, mod-mul-add}
use mathlib.Core.Path.{ap₂}
use Rattle.clip_regions.specs.declared.region.Region.{Region}
use Rattle.clip_regions.specs.Regions.{contains, columns, rows}
use Rattle.four_point.specs.Prediction.{prediction}
use Rattle.four_point.specs.Patches.{IsAtMost}
use Rattle.std.specs.Int.{w32}
use Rattle.std.proofs.lemmas.Int.{ints}
use mir.Val.{SFits}
use Rattle.four_point.specs.Steps.{value_of, brought, IsNear}
use Rattle.block_heights.specs.declared.block.PieceFault.{PieceFault}
use Rattle.block_heights.specs.declared.block.PieceFault.TheVariants.{BadBlock, OutOfRange}
use Rattle.block_heights.specs.Rows.{table_code}
use Rattle.block_heights.specs.Pieces.{IsSmall, within, coded_height, column_of, row_of, AreNearUpTo, HasOut, IsOutCell, row_value, IsOutValue}
use Rattle.block_heights.proofs.Cells.{lying, within_inside, cell_lies, table_code_at, out_at}

-- ---- the cell in column a and row b
pub column_in : (region : Region) (w a b s : ℕ) → w ≡ columns region → s ≡ b * w → a < w → column_of region (s + a) ≡ region.x0 +ℤ pos a
column_in region w a b s e f h =
    ap₂ (λ (m n : ℕ). region.x0 +ℤ pos ((m + a) % n)) f (sym e) ∙ ap (λ (n : ℕ). region.x0 +ℤ pos n) (mod-mul-add b w a h)

pub row_in : (region : Region) (w a b s : ℕ) → w ≡ columns region → s ≡ b * w → a < w → row_of region (s + a) ≡ region.y0 +ℤ pos b
row_in region w a b s e f h =
    ap₂ (λ (m n : ℕ). region.y0 +ℤ pos ((m + a) / n)) f (sym e) ∙ ap (λ (n : ℕ). region.y0 +ℤ pos n) (div-mul-add b w a h)

pub room_below : (b w n c : ℕ) → w ≡ c → b < n → b * w + w ≤ c * n
room_below b w n c e l =
    let room : (b + 1) * w ≤ n * w = mul-le-mul_right w (omega arith) in
    let parts : (b + 1) * w ≡ b * w + w = grind arith in
    let turned : n * w ≡ c * n = ap (λ (m : ℕ). n * m) e ∙ mul_comm n c in
    omega (arith, room, parts, turned)

pub region_same : (a b : Region) → a.x0 ≡ b.x0 → a.y0 ≡ b.y0 → a.x1 ≡ b.x1 → a.y1 ≡ b.y1 → a ≡ b
region_same a b e f g h = λ t. record { x0 = e t; y0 = f t; x1 = g t; y1 = h t }

-- ---- what is known of the value in a column of a row
pub value_is : (coarser : ℤ → ℤ → ℤ) (step : ℕ) (region : Region) (table : List (List ℤ)) (predicted : List ℤ) (before a b : ℕ) → get_or predicted (before + a) (pos 0) ≡ prediction coarser (region.x0 +ℤ pos a) (region.y0 +ℤ pos b) → row_value predicted before (get_or table b []) step a ≡ value_of coarser step (region.x0 +ℤ pos a) (region.y0 +ℤ pos b) (table_code region table (region.x0 +ℤ pos a) (region.y0 +ℤ pos b))
unfolding value_of
value_is coarser step region table predicted before a b e =
    ap₂ (λ (p c : ℤ). p +ℤ pos step *ℤ c) e (sym (table_code_at region table (region.x0 +ℤ pos a) (region.y0 +ℤ pos b) a b refl refl))

-- the value of cell k, by the value of the cell in its column and row
at_cell : (coarser : ℤ → ℤ → ℤ) (step : ℕ) (code : ℤ → ℤ → ℤ) (region : Region) (k : ℕ) (i j v : ℤ) → column_of region k ≡ i → row_of region k ≡ j → v ≡ value_of coarser step i j (code i j) → v ≡ value_of coarser step (column_of region k) (row_of region k) (code (column_of region k) (row_of region k))
at_cell coarser step code region k i j v e f is = is ∙ sym (ap₂ (λ (x y : ℤ). value_of coarser step x y (code x y)) e f)

pub height_here : (coarser : ℤ → ℤ → ℤ) (step : ℕ) (code : ℤ → ℤ → ℤ) (region : Region) (k : ℕ) (i j v x : ℤ) → IsSmall region → k < columns region * rows region → column_of region k ≡ i → row_of region k ≡ j → v ≡ value_of coarser step i j (code i j) → x ≡ brought v → x ≡ within region (coded_height coarser step code) (column_of region k) (row_of region k)
height_here coarser step code region k i j v x small below e f is here =
    here
    ∙ ap brought (at_cell coarser step code region k i j v e f is)
    ∙ sym (within_inside region (coded_height coarser step code) (column_of region k) (row_of region k) (lying region (column_of region k) (row_of region k) (cell_lies region k small below)))

pub near_here : (coarser : ℤ → ℤ → ℤ) (step : ℕ) (code : ℤ → ℤ → ℤ) (region : Region) (k : ℕ) (i j v : ℤ) → column_of region k ≡ i → row_of region k ≡ j → v ≡ value_of coarser step i j (code i j) → IsNear step v → contains region (column_of region k) (row_of region k) ≡ true → IsNear step (value_of coarser step (column_of region k) (row_of region k) (code (column_of region k) (row_of region k)))
near_here coarser step code region k i j v e f is near inside =
    subst (IsNear step) (at_cell coarser step code region k i j v e f is) near

out_cell : (coarser : ℤ → ℤ → ℤ) (step : ℕ) (code : ℤ → ℤ → ℤ) (region : Region) (k : ℕ) (i j v : ℤ) (fault : PieceFault) → IsSmall region → k < columns region * rows region → column_of region k ≡ i → row_of region k ≡ j → v ≡ value_of coarser step i j (code i j) → IsOutValue v step i j fault → IsOutCell coarser step code region (column_of region k) (row_of region k) fault
out_cell coarser step code region k i j v (BadBlock fault) small below e f is out = out
out_cell coarser step code region k i j v (OutOfRange a b value) small below e f is out = (
  out.0 ∙ sym e,
  out.1 ∙ sym f,
  lying region (column_of region k) (row_of region k) (cell_lies region k small below),
  out.2 ∙ at_cell coarser step code region k i j v e f is,
  out.3,
)

pub out_here : (coarser : ℤ → ℤ → ℤ) (step : ℕ) (code : ℤ → ℤ → ℤ) (region : Region) (k n : ℕ) (i j v : ℤ) (fault : PieceFault) → IsSmall region → n ≡ columns region * rows region → k < columns region * rows region → column_of region k ≡ i → row_of region k ≡ j → v ≡ value_of coarser step i j (code i j) → IsOutValue v step i j fault → AreNearUpTo k coarser step code region region → HasOut coarser step code region region n fault
out_here coarser step code region k n i j v fault small whole below e f is out near =
    out_at coarser step code region region k n fault (omega arith) (out_cell coarser step code region k i j v fault small below e f is out) near

pub out_same : (v : ℤ) (step step' : ℕ) (i j i' j' : ℤ) (fault : PieceFault) → step ≡ step' → i ≡ i' → j ≡ j' → IsOutValue v step i j fault → IsOutValue v step' i' j' fault
out_same v step step' i j i' j' fault d e f out =
    subst (λ (n : ℕ). IsOutValue v n i' j' fault) d (subst (λ (x : ℤ). IsOutValue v step x j' fault) e (subst (λ (y : ℤ). IsOutValue v step i y fault) f out))

pub out_of_count : (coarser : ℤ → ℤ → ℤ) (step : ℕ) (code : ℤ → ℤ → ℤ) (region : Region) (m n : ℕ) (fault : PieceFault) → m ≡ n → HasOut coarser step code region region m fault → HasOut coarser step code region region n fault
out_of_count coarser step code region m n fault e out = subst (λ (k : ℕ). HasOut coarser step code region region k fault) e out

pub small_fits : (x : ℤ) → IsAtMost 51200 x → SFits w32 x
small_fits x small =
    let low = small.low in
    let high = small.high in
    grind (arith, ints)
