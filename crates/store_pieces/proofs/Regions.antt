-- The cells of a piece, of a block and of a level.
use Rattle.std.proofs.Common.{◌≡◌, true, false, ℕ, ◌*◌, ◌/◌, ◌%◌, ◌<◌, ℤ, pos, sym, ◌∙◌, ⊎_elim, arith}
use Rattle.std.proofs.lemmas.Int.{ints}
use Rattle.std.proofs.lemmas.Bool.{cases_Bool}
use Rattle.std.proofs.lemmas.Nat.{mod_below, div_below}
use Rattle.clip_regions.specs.declared.region.Region.{Region}
use Rattle.clip_regions.specs.Regions.{contains, is_empty, columns, rows, area}
use Rattle.block_heights.specs.Decoded.{IsPart, IsPartOf}
use Rattle.block_heights.specs.Pieces.{column_of, row_of}
use Rattle.store_model.specs.Sizes.{level_region, block_column, block_row, cells_in_block, block_region}
use Rattle.store_model.specs.Format.{Head}
use Rattle.store_model.specs.Store.{region_of}
use Rattle.store_index.specs.Places.{block_cells, IsBlockAt}
use Rattle.clip_regions.proofs.Cells.{Lies, lies, lying}
use Rattle.block_heights.proofs.Parts.{area_is, none_empty as no_product}
use Rattle.store_reader.proofs.CellNumbers.{columns_is, rows_is}

-- ---- cell k of a piece
none_empty : (r : Region) → is_empty r ≡ true → area r ≡ 0
none_empty r e = area_is r ∙ no_product r e

cell_lies : (bx by : ℤ) (r : Region) (k : ℕ) → IsPartOf bx by r → k < area r → Lies r (column_of r k) (row_of r k)
unfolding area
cell_lies bx by r k part h =
    let a = part.across in
    let d = part.down in
    let wide = columns_is r a in
    let high = rows_is r d in
    let w : 0 < columns r = omega (arith, ints) in
    let turned : k < rows r * columns r = omega arith in
    let column : k % columns r < columns r = mod_below k (columns r) w in
    let row : k / columns r < rows r = div_below k (columns r) (rows r) w turned in
    record { west = omega (arith, ints); east = omega (arith, ints); north = omega (arith, ints); south = omega (arith, ints) }

-- where cell k of a piece lies
pub record CellOf (bx by : ℤ) (cells : Region) (i j : ℤ) : Type 0 where
  pub in_piece : contains cells i j ≡ true
  pub in_block : contains (block_cells bx by) i j ≡ true

pub cell_of : (bx by : ℤ) (cells : Region) (k : ℕ) → IsPart bx by cells → k < area cells → CellOf bx by cells (column_of cells k) (row_of cells k)
cell_of bx by cells k part h =
    ⊎_elim
    (λ (e : is_empty cells ≡ true). let none = none_empty cells e in absurd (omega arith))
    (λ (p : IsPartOf bx by cells).
    let at = cell_lies bx by cells k p h in
    let w = at.west in
    let e = at.east in
    let n = at.north in
    let s = at.south in
    let pw = p.west in
    let pe = p.east in
    let pn = p.north in
    let ps = p.south in
    record {
      in_piece = lying cells (column_of cells k) (row_of cells k) at;
      in_block = lying (block_cells bx by) (column_of cells k) (row_of cells k) (record { west = omega (arith, ints); east = omega (arith, ints); north = omega (arith, ints); south = omega (arith, ints) });
    })
    part

-- ---- a cell of a block that isn't one of its cells in the terrain lies outside the terrain
in_region : (head : Head) (level k : ℕ) (bx by i j : ℤ) → IsBlockAt head level bx by k → Lies (block_cells bx by) i j → Lies (level_region head.width head.height level) i j → Lies (region_of head level k) i j
unfolding level_region block_region cells_in_block
in_region head level k bx by i j at here there =
    let x : bx ≡ pos (block_column head.width level k) = at.column in
    let y : by ≡ pos (block_row head.width level k) = at.row in
    let w = here.west in
    let e = here.east in
    let n = here.north in
    let s = here.south in
    let te = there.east in
    let ts = there.south in
    record { west = omega (arith, ints); east = omega (arith, ints); north = omega (arith, ints); south = omega (arith, ints) }

pub outside_level : (head : Head) (level k : ℕ) (bx by i j : ℤ) → IsBlockAt head level bx by k → contains (block_cells bx by) i j ≡ true → contains (region_of head level k) i j ≡ false → contains (level_region head.width head.height level) i j ≡ false
outside_level head level k bx by i j at here out =
    ⊎_elim
    (λ (t : contains (level_region head.width head.height level) i j ≡ true).
    let inside : contains (region_of head level k) i j ≡ true = lying (region_of head level k) i j (in_region head level k bx by i j at (lies (block_cells bx by) i j here) (lies (level_region head.width head.height level) i j t)) in
    let both : true ≡ false = sym inside ∙ out in
    absurd cc)
    (λ (f : contains (level_region head.width head.height level) i j ≡ false). f)
    (cases_Bool (contains (level_region head.width head.height level) i j))

-- a cell of a block in the terrain lies in its level
pub inside_level : (head : Head) (level k : ℕ) (bx by i j : ℤ) → IsBlockAt head level bx by k → contains (region_of head level k) i j ≡ true → contains (level_region head.width head.height level) i j ≡ true
unfolding level_region block_region cells_in_block
inside_level head level k bx by i j at e =
    let h = lies (region_of head level k) i j e in
    let w = h.west in
    let x = h.east in
    let n = h.north in
    let s = h.south in
    lying (level_region head.width head.height level) i j (record { west = omega (arith, ints); east = omega (arith, ints); north = omega (arith, ints); south = omega (arith, ints) })
