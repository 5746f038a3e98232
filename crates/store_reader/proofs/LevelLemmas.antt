-- A block in the table of its level.
use Rattle.std.proofs.Common.{◌≡◌, Bool, true, false, ◌&&◌, cond, ltb, eqb, min, ℕ, ◌+◌, ◌-◌, ◌*◌, ◌/◌, ◌%◌, ◌^◌, ◌<◌, ◌≤◌, ℤ, pos, negsuc, ◌+ℤ◌, ◌*ℤ◌, ◌≤ℤ◌, ◌<ℤ◌, List, ◌++◌, length, drop, get_or, refl, ap, sym, ◌∙◌, subst, arith}
use Rattle.std.proofs.lemmas.Int.{ints}
use Rattle.std.proofs.lemmas.Nat.{div_below, mod_below, mod-mul-add, div-mul-add}
use Rattle.std.proofs.lemmas.Bool.{false≢true}
use Rattle.std.proofs.lemmas.Bool.Decides.{nat_tests}
use Rattle.std.proofs.Math.Nat.{mul-le-mul_right, mul-le-mul}
use mathlib.Core.Path.{ap₂}
use Rattle.clip_regions.specs.declared.region.Region.{Region}
use Rattle.clip_regions.specs.Regions.{contains, columns, rows, area}
use Rattle.terrain_model.specs.Terrain.{height_at}
use Rattle.block_heights.specs.Pieces.{IsPieceUpTo}
use Rattle.store_model.specs.Sizes.{cells_on}
use Rattle.store_model.specs.Format.{Head, entry}
use Rattle.store_model.specs.Store.{region_of}
use Rattle.store_model.specs.Faults.{HasBlockFault, HasValueOut}
use Rattle.store_model.specs.declared.fault.StoreFault.{StoreFault}
use Rattle.store_model.specs.declared.fault.StoreFault.TheVariants.{BadMagic, BadHeader, CutShort, BadBlock, OutOfRange, Excess, NoMemory}
use Rattle.store_laws.specs.Places.{HasFaultAt}
use Rattle.store_reader.specs.declared.table.Span.{Span}
use Rattle.store_reader.specs.declared.sizes.Place.{Place}
use Rattle.store_reader.specs.declared.blocks.Source.{Source}
use Rattle.store_reader.specs.declared.blocks.Source.TheVariants.{Plain, Over}
use Rattle.store_reader.specs.Places.{IsPlaceOf, cell_heights}
use Rattle.store_reader.specs.Tables.{AreRowsIn, IsKeptOutside, IsSpanOf}
use Rattle.store_reader.specs.Decoding.{IsDecoded, is_plain, IsFaultIn}
use Rattle.store_reader.specs.Reading.{coarser_of, next_in, BlockRead}
use Rattle.store_reader.proofs.CellNumbers.{columns_is, rows_is, lying}
use Rattle.store_laws.proofs.Terrains.{table_at}

-- ---- spans
pub columns_fit : (r : Region) (span : Span) (wide : ℕ) → IsSpanOf r span → r.x0 ≤ℤ r.x1 → r.x1 <ℤ pos wide → span.x0 + span.width ≤ wide
columns_fit r span wide s x h =
    let west = s.west in
    let across = s.across in
    let is = columns_is r x in
    omega (arith, ints)

pub rows_fit : (r : Region) (span : Span) (high : ℕ) → IsSpanOf r span → r.y0 ≤ℤ r.y1 → r.y1 <ℤ pos high → span.y0 + span.rows ≤ high
rows_fit r span high s y h =
    let north = s.north in
    let down = s.down in
    let is = rows_is r y in
    omega (arith, ints)

-- the rows of a block end in the rows of a table from a row of blocks on
pub band_rows : (r : Region) (span : Span) (by row wide high n : ℕ) → IsSpanOf r span → r.y0 ≤ℤ r.y1 → r.y1 ≤ℤ (pos 8 *ℤ pos by +ℤ pos 7) → r.y1 <ℤ pos high → min (8 * (by + 1)) high * wide ≤ min (8 * row) high * wide + n → (span.y0 + span.rows) * wide ≤ 8 * row * wide + n
band_rows r span by row wide high n s y south below h =
    let north = s.north in
    let down = s.down in
    let is = rows_is r y in
    let inside : span.y0 + span.rows ≤ min (8 * (by + 1)) high = omega (arith, ints) in
    let p : (span.y0 + span.rows) * wide ≤ min (8 * (by + 1)) high * wide = mul-le-mul_right wide inside in
    let q : min (8 * row) high * wide ≤ 8 * row * wide = mul-le-mul_right wide (omega arith) in
    omega arith

pub top_is : (r : Region) (by row high : ℕ) → (pos 8 *ℤ pos by) ≤ℤ r.y0 → r.y0 ≤ℤ r.y1 → r.y1 <ℤ pos high → row ≤ by → 8 * row ≡ min (8 * row) high
top_is r by row high north y below h = omega (arith, ints)

pub span_area : (r : Region) (span : Span) → IsSpanOf r span → span.width * span.rows ≡ area r
unfolding area
span_area r span s = ap₂ (λ (m n : ℕ). m * n) s.across s.down

pub few_cells : (m n : ℕ) → m ≤ 8 → n ≤ 8 → m * n ≤ 64
few_cells m n a b = mul-le-mul {n₁ = m} {m₁ = n} {n₂ = 8} {m₂ = 8} a b

-- ---- cells of a table
chosen_like : (a b : Bool) (x y z : ℤ) → (a ≡ true → b ≡ true → x ≡ y) → cond (a && b) x z ≡ cond (a && b) y z
chosen_like true true x y z h = h refl refl
chosen_like true false x y z h = refl
chosen_like false b x y z h = refl

pub height_like : (wide high : ℕ) (old new : List ℤ) (i j : ℤ) → ((x y : ℕ) → i ≡ pos x → j ≡ pos y → x < wide → y < high → get_or new (y * wide + x) (pos 0) ≡ get_or old (y * wide + x) (pos 0)) → height_at (record { width = wide; height = high; table = new }) i j ≡ height_at (record { width = wide; height = high; table = old }) i j
unfolding height_at
height_like wide high old new (pos x) (pos y) h =
    chosen_like (ltb x wide) (ltb y high) (get_or new (y * wide + x) (pos 0)) (get_or old (y * wide + x) (pos 0)) (pos 0)
    (λ a b. h x y refl refl (grind (arith, nat_tests)) (grind (arith, nat_tests)))
height_like wide high old new (pos x) (negsuc y) h = refl
height_like wide high old new (negsuc x) j h = refl

piece_of : (head : Head) (level : ℕ) (r : Region) (span : Span) (out new : List ℤ) → IsSpanOf r span → 0 < columns r → span.x0 + span.width ≤ cells_on head.width level → span.y0 + span.rows ≤ cells_on head.height level → length out ≡ area r → AreRowsIn span.rows (cells_on head.width level) span out new → IsPieceUpTo (length out) (cell_heights head level new) r out
unfolding area
piece_of head level r span out new s some wide high size written k below =
    let w = columns r in
    let a = k % w in
    let b = k / w in
    let across : a < w = mod_below k w some in
    let inside : k < rows r * w = omega arith in
    let down : b < rows r = div_below k w (rows r) some inside in
    let width = s.across in
    let count = s.down in
    let west = s.west in
    let north = s.north in
    let back : b * span.width + a ≡ k = ap (λ (n : ℕ). b * n + a) width ∙ omega arith in
    let column : r.x0 +ℤ pos a ≡ pos (span.x0 + a) = omega (arith, ints) in
    let row : r.y0 +ℤ pos b ≡ pos (span.y0 + b) = omega (arith, ints) in
    sym (ap₂ (cell_heights head level new) column row
    ∙ table_at (record { width = cells_on head.width level; height = cells_on head.height level; table = new }) (span.x0 + a) (span.y0 + b) (omega arith) (omega arith)
    ∙ written a b (omega arith) (omega arith)
    ∙ ap (λ (n : ℕ). get_or out n (pos 0)) back)

kept_of : (head : Head) (level : ℕ) (r : Region) (span : Span) (old new : List ℤ) → IsSpanOf r span → r.x0 ≤ℤ r.x1 → r.y0 ≤ℤ r.y1 → span.x0 + span.width ≤ cells_on head.width level → IsKeptOutside span.rows (cells_on head.width level) span old new → (i j : ℤ) → contains r i j ≡ false → cell_heights head level new i j ≡ cell_heights head level old i j
kept_of head level r span old new s some some_rows wide kept i j out =
    let w = cells_on head.width level in
    let width = s.across in
    let count = s.down in
    let west = s.west in
    let north = s.north in
    let east = columns_is r some in
    let south = rows_is r some_rows in
    height_like w (cells_on head.height level) old new i j
    (λ x y e f h v. kept (y * w + x)
    (λ a b across down same.
    let column : x ≡ span.x0 + a = sym (mod-mul-add y w x h) ∙ ap (λ (n : ℕ). n % w) same ∙ mod-mul-add (span.y0 + b) w (span.x0 + a) (omega arith) in
    let row : y ≡ span.y0 + b = sym (div-mul-add y w x h) ∙ ap (λ (n : ℕ). n / w) same ∙ div-mul-add (span.y0 + b) w (span.x0 + a) (omega arith) in
    false≢true (sym out ∙ lying r i j (record { west = omega (arith, ints); east = omega (arith, ints); north = omega (arith, ints); south = omega (arith, ints) }))))

pub block_read : (head : Head) (source : Source) (level k : ℕ) (bytes : List ℕ) (at next : ℕ) (content : List ℕ) (place : Place) (span : Span) (out old new : List ℤ) → IsPlaceOf head level k place → IsSpanOf place.cells span → place.cells.x0 ≤ℤ place.cells.x1 → place.cells.y0 ≤ℤ place.cells.y1 → place.cells.x1 <ℤ pos (cells_on head.width level) → place.cells.y1 <ℤ pos (cells_on head.height level) → length content < 2 ^ 16 → next ≡ at + (2 + length content) → at + (2 + length content) ≤ length bytes → at + (2 + length content) ≡ next_in bytes at → drop at bytes ≡ entry content ++ drop (at + (2 + length content)) bytes → length out ≡ area place.cells → IsDecoded source head.step place.cells content out → AreRowsIn span.rows (cells_on head.width level) span out new → IsKeptOutside span.rows (cells_on head.width level) span old new → BlockRead head source level k bytes at next old new
block_read head source level k bytes at next content place span out old new p s x y east south short next_is ends counted spelled size decoded written kept =
    let r = place.cells in
    let wide = columns_fit r span (cells_on head.width level) s x east in
    let high = rows_fit r span (cells_on head.height level) s y south in
    let is = columns_is r x in
    let some : 0 < columns r = omega (arith, ints) in
    record {
      content = content;
      out = out;
      short = short;
      ends = omega arith;
      place = next_is ∙ counted;
      spelled = spelled ∙ ap (λ (n : ℕ). entry content ++ drop n bytes) (sym next_is);
      size = size ∙ ap area p.cells;
      decoded = subst (λ (c : Region). IsDecoded source head.step c content out) p.cells decoded;
      piece = subst (λ (c : Region). IsPieceUpTo (length out) (cell_heights head level new) c out) p.cells (piece_of head level r span out new s some wide high size written);
      kept = subst (λ (c : Region). (i j : ℤ) → contains c i j ≡ false → cell_heights head level new i j ≡ cell_heights head level old i j) p.cells (kept_of head level r span old new s x y wide kept);
    }

-- ---- the fault of a block at its place
no_top : (level : ℕ) (head : Head) → level < head.levels → false ≡ eqb (level + 1) head.levels → level + 1 < head.levels
no_top level head h e =
    let apart : eqb (level + 1) head.levels ≡ false = sym e in
    grind (arith, nat_tests)

pub fault_of : (head : Head) (source : Source) (level k : ℕ) (bytes : List ℕ) (at : ℕ) (content : List ℕ) (place : Place) (fault : StoreFault) → level < head.levels → is_plain source ≡ eqb (level + 1) head.levels → IsPlaceOf head level k place → length content < 2 ^ 16 → drop at bytes ≡ entry content ++ drop (at + (2 + length content)) bytes → IsFaultIn source head.step place content fault → HasFaultAt head (coarser_of source) level k bytes (drop at bytes) fault
fault_of head source level k bytes at content place BadMagic below kind p short spelled f = f
fault_of head source level k bytes at content place (BadHeader field) below kind p short spelled f = f
fault_of head source level k bytes at content place (CutShort offset) below kind p short spelled f = absurd f
fault_of head source level k bytes at content place (BadBlock l bx by fault) below kind p short spelled f = (
  f.0 ∙ p.at_level,
  f.1 ∙ p.column,
  f.2 ∙ p.row,
  record {
    content = content;
    after = drop (at + (2 + length content)) bytes;
    short = short;
    spelled = spelled;
    follows =
        subst (λ (t : Bool). HasBlockFault t (region_of head level k) content fault) kind
        (subst (λ (c : Region). HasBlockFault (is_plain source) c content fault) p.cells f.3);
  },
)
fault_of head Plain level k bytes at content place (OutOfRange l i j value) below kind p short spelled f = absurd f.1
fault_of head (Over grid) level k bytes at content place (OutOfRange l i j value) below kind p short spelled f = (
  f.0 ∙ p.at_level,
  no_top level head below kind,
  record {
    content = content;
    after = drop (at + (2 + length content)) bytes;
    short = short;
    spelled = spelled;
    follows = subst (λ (c : Region). HasValueOut (coarser_of (Over grid)) head.step c content (pos i) (pos j) value) p.cells f.1;
  },
)
fault_of head source level k bytes at content place (Excess offset) below kind p short spelled f = f
fault_of head source level k bytes at content place NoMemory below kind p short spelled f = f
