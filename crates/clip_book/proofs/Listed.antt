-- Heights that stand at their places are those of a region's cells in their order.
use Rattle.std.proofs.Common.{◌≡◌, ℕ, zero, suc, ◌+◌, ◌*◌, ◌/◌, ◌%◌, ◌<◌, ◌≤◌, true, ℤ, pos, ◌+ℤ◌, length, map, get_or, refl, ap, sym, ◌∙◌, subst, arith}
use Rattle.std.proofs.Math.Nat.{mod-lt, div-add-mod, mul-div-le, lt_of_mul-lt-mul_left}
use mathlib.Core.Path.{ap₂}
use Rattle.std.proofs.lemmas.Int.{ints}
use Rattle.std.proofs.lemmas.List.{length-map, ext_get_or}
use Rattle.clip_regions.specs.declared.region.Region.{Region}
use Rattle.clip_regions.specs.Regions.{columns, rows, area, cells, contains}
use Rattle.clip_regions.proofs.Sizes.{length_cells}
use Rattle.clip_regions.proofs.Cells.{lying}
use Rattle.clip_regions.proofs.Gaps.{gap_is, gap_holds}
use Rattle.torus_grid.specs.Places.{place_among}
use Rattle.torus_grid.specs.Laws.{CellsInRows}
use Rattle.clip_book.specs.Laws.{ReadByPlaces}

-- a place among the cells of a region has a column and a row
some_across : (k w h : ℕ) → k < w * h → 0 < w
some_across k zero h l = absurd (omega arith)
some_across k (suc w) h l = omega arith

below_down : (k w h : ℕ) → k < w * h → 0 < w → k / w < h
below_down k w h l some =
    let part : w * (k / w) ≤ k = mul-div-le k w in
    let less : w * (k / w) < w * h = omega arith in
    lt_of_mul-lt-mul_left w less

module _ (r : Region) (k : ℕ) (inside : k < columns r * rows r) where
  across : 0 < columns r
  across = some_across k (columns r) (rows r) inside

  column_there : k % columns r < columns r
  column_there = mod-lt k across

  row_there : k / columns r < rows r
  row_there = below_down k (columns r) (rows r) inside across

  cell_lies : contains r (r.x0 +ℤ pos (k % columns r)) (r.y0 +ℤ pos (k / columns r)) ≡ true
  unfolding columns rows
  cell_lies =
      let east = gap_holds r.x0 (r.x1 +ℤ pos 1) (k % columns r) column_there in
      let south = gap_holds r.y0 (r.y1 +ℤ pos 1) (k / columns r) row_there in
      lying r (r.x0 +ℤ pos (k % columns r)) (r.y0 +ℤ pos (k / columns r)) (record { west = omega (arith, ints); east = omega (arith, ints); north = omega (arith, ints); south = omega (arith, ints) })

  place_is : place_among r (r.x0 +ℤ pos (k % columns r)) (r.y0 +ℤ pos (k / columns r)) ≡ k
  unfolding place_among
  place_is =
      let a = gap_is r.y0 (r.y0 +ℤ pos (k / columns r)) (k / columns r) refl in
      let b = gap_is r.x0 (r.x0 +ℤ pos (k % columns r)) (k % columns r) refl in
      ap₂ (λ (m n : ℕ). columns r * m + n) a b ∙ div-add-mod k (columns r)

pub listed : CellsInRows → ReadByPlaces
unfolding area
listed law height r out many stand =
    let long : length (map (λ (c : ℤ × ℤ). height c.0 c.1) (cells r)) ≡ length (cells r) = length-map (cells r) (λ (c : ℤ × ℤ). height c.0 c.1) in
    ext_get_or (pos 0) out (map (λ (c : ℤ × ℤ). height c.0 c.1) (cells r)) (many ∙ length_cells r ∙ sym long) (λ k l.
    let inside : k < columns r * rows r = subst (λ (n : ℕ). k < n) many l in
    stand k l ∙ sym (law r (λ (c : ℤ × ℤ). height c.0 c.1) (r.x0 +ℤ pos (k % columns r)) (r.y0 +ℤ pos (k / columns r)) (cell_lies r k inside)) ∙ ap (λ (n : ℕ). get_or (map (λ (c : ℤ × ℤ). height c.0 c.1) (cells r)) n (pos 0)) (place_is r k inside))
