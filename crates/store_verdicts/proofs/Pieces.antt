-- Heights as the list of a region's cells, and the heights of a level by those of its blocks.
use Rattle.std.proofs.Common.{◌≡◌, Bool, true, false, cond, ℕ, ◌+◌, ◌-◌, ◌*◌, ◌/◌, ◌%◌, ◌<◌, ℤ, pos, negsuc, ◌≤ℤ◌, List, length, map, FitsSigned, ap, sym, ◌∙◌, arith}
use Rattle.std.specs.Int.{w16}
use Rattle.std.specs.List.{range_with_len}
use Rattle.std.proofs.lemmas.Int.{ints}
use Rattle.std.proofs.lemmas.Nat.{div_below, mod_below}
use Rattle.std.proofs.lemmas.List.FromFn.{get_or-map-range_with_len, length-map-range_with_len}
use Rattle.clip_regions.specs.declared.region.Region.{Region}
use Rattle.clip_regions.specs.Regions.{contains, columns, rows, area}
use Rattle.block_heights.specs.Pieces.{IsPieceUpTo, column_of, row_of}
use Rattle.store_model.specs.Sizes.{cells_on, blocks_on, level_region, block_count, block_column, block_row, cells_in_block, block_region}
use Rattle.store_model.specs.Format.{Head}
use Rattle.store_model.specs.Store.{region_of}
use Rattle.store_model.proofs.Canonical.{in_level}
use Rattle.store_reader.proofs.CellNumbers.{lies, lying, columns_is, rows_is}

-- ---- the cells of a block

pub record HasCells (r : Region) : Type 0 where
  pub across : r.x0 ≤ℤ r.x1
  pub down : r.y0 ≤ℤ r.y1
  pub west : pos 0 ≤ℤ r.x0
  pub north : pos 0 ≤ℤ r.y0

pub has_cells : (width height level k : ℕ) → k < block_count width height level → HasCells (block_region width height level k)
unfolding block_count block_region cells_in_block block_column block_row blocks_on
has_cells width height level k h =
    let across = (cells_on width level - 1) / 8 + 1 in
    let down = (cells_on height level - 1) / 8 + 1 in
    let turned : k < down * across = omega arith in
    let column : k % across < across = mod_below k across (omega arith) in
    let row : k / across < down = div_below k across down (omega arith) turned in
    record { across = omega (arith, ints); down = omega (arith, ints); west = omega (arith, ints); north = omega (arith, ints) }

numbered_inside : (r : Region) (k : ℕ) → HasCells r → k < area r → contains r (column_of r k) (row_of r k) ≡ true
unfolding area
numbered_inside r k some h =
    let a = some.across in
    let d = some.down in
    let wide = columns_is r a in
    let high = rows_is r d in
    let w : 0 < columns r = omega (arith, ints) in
    let turned : k < rows r * columns r = omega arith in
    let column : k % columns r < columns r = mod_below k (columns r) w in
    let row : k / columns r < rows r = div_below k (columns r) (rows r) w turned in
    lying r (column_of r k) (row_of r k) (record { west = omega (arith, ints); east = omega (arith, ints); north = omega (arith, ints); south = omega (arith, ints) })

-- the heights of a region's cells, row by row
abbrev pub cells_of : (ℤ → ℤ → ℤ) → Region → List ℤ
cells_of f r = map (λ k. f (column_of r k) (row_of r k)) (range_with_len 0 (area r))

pub cells_length : (f : ℤ → ℤ → ℤ) (r : Region) → length (cells_of f r) ≡ area r
cells_length f r = length-map-range_with_len (λ k. f (column_of r k) (row_of r k)) 0 (area r)

pub cells_piece : (f : ℤ → ℤ → ℤ) (r : Region) → IsPieceUpTo (length (cells_of f r)) f r (cells_of f r)
cells_piece f r k h =
    let size = cells_length f r in
    get_or-map-range_with_len (λ n. f (column_of r n) (row_of r n)) 0 (area r) k k (pos 0) (omega arith) (omega arith)

-- what agrees with heights in a region has its cells
pub like_piece : (f g : ℤ → ℤ → ℤ) (r : Region) → HasCells r → ((i j : ℤ) → contains r i j ≡ true → f i j ≡ g i j) → IsPieceUpTo (length (cells_of f r)) g r (cells_of f r)
like_piece f g r some same k h =
    let size = cells_length f r in
    cells_piece f r k h ∙ same (column_of r k) (row_of r k) (numbered_inside r k some (omega arith))

-- ---- the block of a cell

-- the number of the block of a cell, counted row by row
number : ℕ → ℕ → ℤ → ℤ → ℕ
number width level (pos x) (pos y) = y / 8 * blocks_on (cells_on width level) + x / 8
number width level (pos x) (negsuc y) = 0
number width level (negsuc x) j = 0

number_is : (width height level k : ℕ) (i j : ℤ) → contains (block_region width height level k) i j ≡ true → number width level i j ≡ k
unfolding number block_region cells_in_block block_column block_row blocks_on
number_is width height level k (pos x) (pos y) e =
    let h = lies (block_region width height level k) (pos x) (pos y) e in
    let across = (cells_on width level - 1) / 8 + 1 in
    let west = h.west in
    let east = h.east in
    let north = h.north in
    let south = h.south in
    let column : x / 8 ≡ k % across = omega (arith, ints) in
    let row : y / 8 ≡ k / across = omega (arith, ints) in
    let turned : y / 8 * across ≡ across * (k / across) = ap (λ (n : ℕ). n * across) row ∙ swapped (k / across) across in
    omega arith
  where
    swapped : (m n : ℕ) → m * n ≡ n * m
    swapped m n = omega arith
number_is width height level k (negsuc x) j e = (let h = (lies (block_region width height level k) (negsuc x) j e).west in absurd (omega (arith, ints)))
number_is width height level k (pos x) (negsuc y) e = (let h = (lies (block_region width height level k) (pos x) (negsuc y) e).north in absurd (omega (arith, ints)))

-- the heights of a level by those of its blocks, and 0 outside the terrain
pub level_of : Head → ℕ → (ℕ → ℤ → ℤ → ℤ) → ℤ → ℤ → ℤ
level_of head level f i j = cond (contains (level_region head.width head.height level) i j) (f (number head.width level i j) i j) (pos 0)

pub level_at : (head : Head) (level k : ℕ) (f : ℕ → ℤ → ℤ → ℤ) (i j : ℤ) → contains (region_of head level k) i j ≡ true → f k i j ≡ level_of head level f i j
unfolding level_of
level_at head level k f i j e =
    let inside = in_level head.width head.height level k i j e in
    sym (ap (λ (t : Bool). cond t (f (number head.width level i j) i j) (pos 0)) inside
    ∙ ap (λ (n : ℕ). f n i j) (number_is head.width head.height level k i j e))

pub level_none : (head : Head) (level : ℕ) (f : ℕ → ℤ → ℤ → ℤ) (i j : ℤ) → contains (level_region head.width head.height level) i j ≡ false → level_of head level f i j ≡ pos 0
unfolding level_of
level_none head level f i j e = ap (λ (t : Bool). cond t (f (number head.width level i j) i j) (pos 0)) e

pub chosen_fits : (t : Bool) (x : ℤ) → FitsSigned w16 x → FitsSigned w16 (cond t x (pos 0))
chosen_fits true x h = h
chosen_fits false x h = omega (arith, ints)

pub level_fits : (head : Head) (level : ℕ) (f : ℕ → ℤ → ℤ → ℤ) → ((k : ℕ) (i j : ℤ) → FitsSigned w16 (f k i j)) → (i j : ℤ) → FitsSigned w16 (level_of head level f i j)
unfolding level_of
level_fits head level f fits i j =
    chosen_fits (contains (level_region head.width head.height level) i j) (f (number head.width level i j) i j) (fits (number head.width level i j) i j)
