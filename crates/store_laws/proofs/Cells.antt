-- Each cell of a level lies in one of its blocks.
use Rattle.std.proofs.Common.{◌≡◌, true, min, ℕ, ◌+◌, ◌-◌, ◌*◌, ◌/◌, ◌%◌, ◌<◌, ◌≤◌, ℤ, pos, negsuc, ◌+ℤ◌, ◌≤ℤ◌, refl, sym, subst, arith}
use Rattle.std.specs.Int.{int_gap}
use Rattle.std.proofs.lemmas.Int.{ints}
use Rattle.std.proofs.lemmas.Nat.{mul-add-lt, mod-mul-add, div-mul-add}
use Rattle.clip_regions.specs.declared.region.Region.{Region}
use Rattle.clip_regions.specs.Regions.{contains, columns, rows, numbers_from}
use Rattle.store_model.specs.Sizes.{cells_on, blocks_on, level_region, block_count, block_column, block_row, cells_in_block, block_region}
use Rattle.store_laws.proofs.Members.{Member, in_numbers}
use Rattle.clip_regions.proofs.Cells.{lies, lying, Lies}

-- a cell's column and row are among those of its region
gap_member : (a b z : ℤ) → a ≤ℤ z → z ≤ℤ b → Member (numbers_from a (int_gap a (b +ℤ pos 1))) z
gap_member a b z low high =
    in_numbers a (int_gap a (b +ℤ pos 1)) (int_gap a z) z (gap_less a b z low high) (gap_is a z low)
  where
    gap_is : (x y : ℤ) → x ≤ℤ y → y ≡ x +ℤ pos (int_gap x y)
    gap_is (pos x) (pos y) h = omega (arith, ints)
    gap_is (pos x) (negsuc y) h = absurd (omega (arith, ints))
    gap_is (negsuc x) (pos y) h = omega (arith, ints)
    gap_is (negsuc x) (negsuc y) h = omega (arith, ints)

    gap_less : (x y w : ℤ) → x ≤ℤ w → w ≤ℤ y → int_gap x w < int_gap x (y +ℤ pos 1)
    gap_less x y w h k =
        let first = gap_is x w h in
        let second = gap_is x (y +ℤ pos 1) (omega (arith, ints)) in
        omega (arith, ints)

pub column_member : (r : Region) (i j : ℤ) → Lies r i j → Member (numbers_from r.x0 (columns r)) i
unfolding columns
column_member r i j h = gap_member r.x0 r.x1 i h.west h.east

pub row_member : (r : Region) (i j : ℤ) → Lies r i j → Member (numbers_from r.y0 (rows r)) j
unfolding rows
row_member r i j h = gap_member r.y0 r.y1 j h.north h.south

-- the block of a cell of a level
pub record InBlock (width height level : ℕ) (i j : ℤ) : Type 0 where
  pub k : ℕ
  pub below : k < block_count width height level
  pub inside : contains (block_region width height level k) i j ≡ true

cells_some : (side level : ℕ) → 1 ≤ cells_on side level
unfolding cells_on
cells_some side level = omega arith

place_in_block : (width height level x y : ℕ) → x < cells_on width level → y < cells_on height level → InBlock width height level (pos x) (pos y)
unfolding blocks_on block_count block_region cells_in_block block_column block_row
place_in_block width height level x y h v =
    let cw = cells_on width level in
    let ch = cells_on height level in
    let across = (cw - 1) / 8 + 1 in
    let down = (ch - 1) / 8 + 1 in
    let bx = x / 8 in
    let by = y / 8 in
    let column : bx < across = omega arith in
    let row : by < down = omega arith in
    let turned : across * down ≡ across * down = refl in
    let column_is : (by * across + bx) % across ≡ bx = mod-mul-add by across bx column in
    let row_is : (by * across + bx) / across ≡ by = div-mul-add by across bx column in
    record {
      k = by * across + bx;
      below = mul-add-lt by across bx down row column;
      inside =
          subst (λ (b : ℕ). contains (record { x0 = pos (8 * b); y0 = pos (8 * ((by * across + bx) / across)); x1 = pos (min (8 * b + 7) (cw - 1)); y1 = pos (min (8 * ((by * across + bx) / across) + 7) (ch - 1)) }) (pos x) (pos y) ≡ true) (sym column_is)
          (subst (λ (b : ℕ). contains (record { x0 = pos (8 * bx); y0 = pos (8 * b); x1 = pos (min (8 * bx + 7) (cw - 1)); y1 = pos (min (8 * b + 7) (ch - 1)) }) (pos x) (pos y) ≡ true) (sym row_is)
          (lying (record { x0 = pos (8 * bx); y0 = pos (8 * by); x1 = pos (min (8 * bx + 7) (cw - 1)); y1 = pos (min (8 * by + 7) (ch - 1)) }) (pos x) (pos y)
          (record { west = omega (arith, ints); east = omega (arith, ints); north = omega (arith, ints); south = omega (arith, ints) })));
    }

level_lies : (width height level : ℕ) (i j : ℤ) → contains (level_region width height level) i j ≡ true → Lies (record { x0 = pos 0; y0 = pos 0; x1 = pos (cells_on width level - 1); y1 = pos (cells_on height level - 1) }) i j
unfolding level_region
level_lies width height level i j e = lies (level_region width height level) i j e

pub in_block : (width height level : ℕ) (i j : ℤ) → contains (level_region width height level) i j ≡ true → InBlock width height level i j
in_block width height level (pos x) (pos y) e =
    let h = level_lies width height level (pos x) (pos y) e in
    let w = h.east in
    let s = h.south in
    let some = cells_some width level in
    let some_rows = cells_some height level in
    place_in_block width height level x y (omega (arith, ints)) (omega (arith, ints))
in_block width height level (negsuc x) j e = (let h = (level_lies width height level (negsuc x) j e).west in absurd (omega (arith, ints)))
in_block width height level (pos x) (negsuc y) e = (let h = (level_lies width height level (pos x) (negsuc y) e).north in absurd (omega (arith, ints)))
