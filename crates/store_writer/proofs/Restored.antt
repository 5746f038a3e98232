-- Restored heights of a block's cells.
use Rattle.std.proofs.Common.{◌≡◌, ◌⊎◌, Bool, true, false, cond, ℕ, ◌+◌, ◌-◌, ◌/◌, ◌%◌, ◌<◌, ◌≤◌, ℤ, pos, ◌+ℤ◌, ◌-ℤ◌, ◌*ℤ◌, List, [], ◌∷◌, ◌++◌, map, refl, ap, ◌∙◌, subst, ⊎_elim, arith}
use Rattle.std.proofs.lemmas.Int.{ints}
use Rattle.std.specs.List.{range_with_len}
use Rattle.std.proofs.lemmas.List.FromFn.{map-range_with_len_more}
use mathlib.Core.Path.{ap₂}
use Rattle.clip_regions.specs.declared.region.Region.{Region}
use Rattle.clip_regions.specs.Regions.{contains}
use Rattle.clip_regions.specs.FloorDivision.{floor_div}
use Rattle.four_point.specs.Prediction.{prediction}
use Rattle.four_point.specs.Patches.{IsOfBlock}
use Rattle.four_point.specs.Steps.{code_of, value_of, brought}
use Rattle.store_model.specs.Blocks.{is_coded}
use Rattle.store_model.specs.Restored.{restored_cell}
use Rattle.store_writer.specs.declared.cells.Cells.{Cells}
use Rattle.store_writer.specs.Entries.{code_over}
use Rattle.store_writer.specs.Cells.{region_of}
use Rattle.store_writer.specs.Tables.{restored_in, block_heights}
use Rattle.store_writer.proofs.Outside.{not_lying}
use Rattle.store_writer.proofs.Patches.{of_block, code_same}
use Rattle.clip_regions.proofs.Cells.{lying}

pub cells_lie : (cells : Cells) (i j : ℕ) → cells.x0 ≤ i → cells.y0 ≤ j → i < cells.x0 + cells.columns → j < cells.y0 + cells.rows → contains (region_of cells) (pos i) (pos j) ≡ true
unfolding region_of
cells_lie cells i j west north east south =
    lying (region_of cells) (pos i) (pos j) (record { west = omega (arith, ints); east = omega (arith, ints); north = omega (arith, ints); south = omega (arith, ints) })

pub cells_out : (cells : Cells) (i j : ℕ) → 1 ≤ cells.columns → 1 ≤ cells.rows → (cells.x0 + cells.columns ≤ i) ⊎ (cells.y0 + cells.rows ≤ j) → contains (region_of cells) (pos i) (pos j) ≡ false
unfolding region_of
cells_out cells i j wide high out =
    not_lying (region_of cells) (pos i) (pos j)
    (λ h.
    let e = h.east in
    let s = h.south in
    ⊎_elim (λ (o : cells.x0 + cells.columns ≤ i). absurd (omega (arith, ints))) (λ (o : cells.y0 + cells.rows ≤ j). absurd (omega (arith, ints))) out)

pub restored_none : (C F : ℤ → ℤ → ℤ) (step : ℕ) (region : Region) (i j : ℤ) → contains region i j ≡ false → restored_in C F step region i j ≡ pos 0
unfolding restored_in
restored_none C F step region i j e = ap (λ (t : Bool). cond t (restored_cell C step i j (F i j)) (pos 0)) e

pub restored_even : (C F : ℤ → ℤ → ℤ) (step : ℕ) (region : Region) (i j : ℕ) → contains region (pos i) (pos j) ≡ true → is_coded (pos i) (pos j) ≡ false → restored_in C F step region (pos i) (pos j) ≡ C (pos (i / 2)) (pos (j / 2))
unfolding restored_in restored_cell floor_div
restored_even C F step region i j e even =
    ap (λ (t : Bool). cond t (restored_cell C step (pos i) (pos j) (F (pos i) (pos j))) (pos 0)) e
    ∙ ap (λ (t : Bool). cond t (brought (value_of C step (pos i) (pos j) (code_of C step (pos i) (pos j) (F (pos i) (pos j))))) (C (pos (i / 2)) (pos (j / 2)))) even

pub restored_coded : (C F : ℤ → ℤ → ℤ) (step : ℕ) (region : Region) (i j : ℤ) → contains region i j ≡ true → is_coded i j ≡ true → restored_in C F step region i j ≡ brought (value_of C step i j (code_over C F step i j))
unfolding restored_in restored_cell
restored_coded C F step region i j e coded =
    ap (λ (t : Bool). cond t (restored_cell C step i j (F i j)) (pos 0)) e
    ∙ ap (λ (t : Bool). cond t (brought (value_of C step i j (code_of C step i j (F i j)))) (C (floor_div i 2) (floor_div j 2))) coded

pub value_same : (P C F : ℤ → ℤ → ℤ) (step : ℕ) (i j : ℤ) → prediction P i j ≡ prediction C i j → brought (value_of P step i j (code_over P F step i j)) ≡ brought (value_of C step i j (code_over C F step i j))
unfolding value_of
value_same P C F step i j e =
    ap₂ (λ (p d : ℤ). brought (p +ℤ pos step *ℤ d)) e (code_same P C step i j (F i j) e)

pub of_block_at : (first : ℤ) (x i : ℕ) → x % 8 ≡ 0 → first ≡ pos (x / 2) -ℤ pos 1 → x ≤ i → i < x + 8 → IsOfBlock first (pos i)
of_block_at first x i even e low high =
    let place : x + (i - x) ≡ i = omega arith in
    subst (λ (n : ℕ). IsOfBlock first (pos n)) place (of_block first x (i - x) even e (omega arith))

-- ---- the heights of a block, one more at a time
unfoldable pub heights_before : (ℤ → ℤ → ℤ) → ℕ → ℕ → ℕ → List ℤ
heights_before heights x y n = map (λ k. heights (pos (x + k % 8)) (pos (y + k / 8))) (range_with_len 0 n)

pub heights_none : (heights : ℤ → ℤ → ℤ) (x y : ℕ) → heights_before heights x y 0 ≡ []
unfolding heights_before
heights_none heights x y = refl

pub heights_more : (heights : ℤ → ℤ → ℤ) (x y n : ℕ) → heights_before heights x y (n + 1) ≡ heights_before heights x y n ++ heights (pos (x + n % 8)) (pos (y + n / 8)) ∷ []
unfolding heights_before
heights_more heights x y n = map-range_with_len_more (λ k. heights (pos (x + k % 8)) (pos (y + k / 8))) 0 n n (omega arith)

pub heights_all : (heights : ℤ → ℤ → ℤ) (x y : ℕ) → heights_before heights x y 64 ≡ block_heights heights x y
unfolding heights_before block_heights
heights_all heights x y = refl
