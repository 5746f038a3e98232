-- The cells of a region by their numbers, row by row.
use Rattle.std.proofs.Common.{◌≡◌, true, ◌&&◌, ℕ, ◌+◌, ◌*◌, ◌<◌, ℤ, pos, negsuc, ◌+ℤ◌, ◌≤ℤ◌, List, get_or, Result, Ok, Err, OnOk, IfOk, IfErr, ap, sym, ◌∙◌, arith}
use Rattle.std.specs.Int.{int_gap}
use Rattle.std.proofs.lemmas.Int.{ints}
use Rattle.std.proofs.lemmas.Bool.{and_parts, and_from}
use Rattle.std.proofs.lemmas.Nat.{mul-add-lt, mod-mul-add, div-mul-add}
use lib.Signed.{le_z}
use mathlib.Core.Path.{ap₂}
use Rattle.clip_regions.specs.declared.region.Region.{Region}
use Rattle.clip_regions.specs.Regions.{contains, columns, rows, area}
use Rattle.block_heights.specs.Pieces.{IsPieceUpTo, Lies, column_of, row_of}
use Rattle.clip_regions.proofs.Cells.{tested_le, le_tested}

pub lies : (r : Region) (i j : ℤ) → contains r i j ≡ true → Lies r i j
unfolding contains
lies r i j e =
    let parts = and_parts (le_z r.x0 i && le_z i r.x1) (le_z r.y0 j && le_z j r.y1) e in
    let across = and_parts (le_z r.x0 i) (le_z i r.x1) parts.0 in
    let down = and_parts (le_z r.y0 j) (le_z j r.y1) parts.1 in
    record {
      west = tested_le r.x0 i across.0;
      east = tested_le i r.x1 across.1;
      north = tested_le r.y0 j down.0;
      south = tested_le j r.y1 down.1;
    }

pub lying : (r : Region) (i j : ℤ) → Lies r i j → contains r i j ≡ true
unfolding contains
lying r i j h =
    and_from (le_z r.x0 i && le_z i r.x1) (le_z r.y0 j && le_z j r.y1)
    (and_from (le_z r.x0 i) (le_z i r.x1) (le_tested r.x0 i h.west) (le_tested i r.x1 h.east))
    (and_from (le_z r.y0 j) (le_z j r.y1) (le_tested r.y0 j h.north) (le_tested j r.y1 h.south))

gap_is : (x y : ℤ) → x ≤ℤ y → y ≡ x +ℤ pos (int_gap x y)
gap_is (pos x) (pos y) h = omega (arith, ints)
gap_is (pos x) (negsuc y) h = absurd (omega (arith, ints))
gap_is (negsuc x) (pos y) h = omega (arith, ints)
gap_is (negsuc x) (negsuc y) h = omega (arith, ints)

pub columns_is : (r : Region) → r.x0 ≤ℤ r.x1 → r.x1 +ℤ pos 1 ≡ r.x0 +ℤ pos (columns r)
unfolding columns
columns_is r h = gap_is r.x0 (r.x1 +ℤ pos 1) (omega (arith, ints))

pub rows_is : (r : Region) → r.y0 ≤ℤ r.y1 → r.y1 +ℤ pos 1 ≡ r.y0 +ℤ pos (rows r)
unfolding rows
rows_is r h = gap_is r.y0 (r.y1 +ℤ pos 1) (omega (arith, ints))

-- the number of a cell of a region, and how far it lies from the first one
pub record Numbered (r : Region) (i j : ℤ) : Type 0 where
  pub a : ℕ
  pub b : ℕ
  pub across : a < columns r
  pub down : b < rows r
  pub below : b * columns r + a < area r
  pub column : column_of r (b * columns r + a) ≡ i
  pub row : row_of r (b * columns r + a) ≡ j
  pub column_at : i ≡ r.x0 +ℤ pos a
  pub row_at : j ≡ r.y0 +ℤ pos b

pub numbered_at : (r : Region) (a b : ℕ) (i j : ℤ) → a < columns r → b < rows r → i ≡ r.x0 +ℤ pos a → j ≡ r.y0 +ℤ pos b → Numbered r i j
unfolding area
numbered_at r a b i j across down e f = record {
  a = a;
  b = b;
  across = across;
  down = down;
  below = mul-add-lt b (columns r) a (rows r) down across;
  column = ap (λ (n : ℕ). r.x0 +ℤ pos n) (mod-mul-add b (columns r) a across) ∙ sym e;
  row = ap (λ (n : ℕ). r.y0 +ℤ pos n) (div-mul-add b (columns r) a across) ∙ sym f;
  column_at = e;
  row_at = f;
}

pub numbered : (r : Region) (i j : ℤ) → contains r i j ≡ true → Numbered r i j
numbered r i j e =
    let h = lies r i j e in
    let w = h.west in
    let x = h.east in
    let n = h.north in
    let s = h.south in
    let wide = columns_is r (omega (arith, ints)) in
    let high = rows_is r (omega (arith, ints)) in
    let column = gap_is r.x0 i w in
    let row = gap_is r.y0 j n in
    numbered_at r (int_gap r.x0 i) (int_gap r.y0 j) i j (omega (arith, ints)) (omega (arith, ints)) column row

-- a piece has at a cell of its region the number of that cell
pub piece_at : (n : ℕ) (heights : ℤ → ℤ → ℤ) (r : Region) (out : List ℤ) (i j : ℤ) → n ≡ area r → IsPieceUpTo n heights r out → (c : Numbered r i j) → heights i j ≡ get_or out (c.b * columns r + c.a) (pos 0)
piece_at n heights r out i j e p c =
    let below = c.below in
    ap₂ heights (sym c.column) (sym c.row) ∙ sym (p (c.b * columns r + c.a) (omega arith))

pub same_piece : (n : ℕ) (f g : ℤ → ℤ → ℤ) (r : Region) (out : List ℤ) (i j : ℤ) → n ≡ area r → IsPieceUpTo n f r out → IsPieceUpTo n g r out → contains r i j ≡ true → f i j ≡ g i j
same_piece n f g r out i j e p q inside =
    let c = numbered r i j inside in
    piece_at n f r out i j e p c ∙ sym (piece_at n g r out i j e q c)

pub on_ok : {T E : Type 0} (P Q : Type 0) (r : Result T E) → (P → Q) → OnOk r P → OnOk r Q
on_ok P Q (Ok x) f p = f p
on_ok P Q (Err e) f p = tt

pub if_err : {T E : Type 0} (P Q : E → Type 0) (r : Result T E) → ((e : E) → P e → Q e) → IfErr r P → IfErr r Q
if_err P Q (Ok x) f p = tt
if_err P Q (Err e) f p = f e p

pub if_ok : {T E : Type 0} (P Q : T → Type 0) (r : Result T E) → ((x : T) → P x → Q x) → IfOk r P → IfOk r Q
if_ok P Q (Ok x) f p = f x p
if_ok P Q (Err e) f p = tt
