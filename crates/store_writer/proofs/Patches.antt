-- Codes over a patch are the codes over the heights that it was filled from.
use Rattle.std.proofs.Common.{◌≡◌, ℕ, ◌+◌, ◌-◌, ◌/◌, ◌%◌, ◌<◌, ℤ, pos, ◌+ℤ◌, ◌-ℤ◌, ap, subst, arith}
use Rattle.std.specs.Int.{w32}
use Rattle.std.proofs.lemmas.Int.{ints}
use mir.Val.{SFits}
use Rattle.clip_regions.specs.FloorDivision.{floor_div}
use Rattle.four_point.specs.Prediction.{prediction}
use Rattle.four_point.specs.Patches.{patch_height, IsOfBlock}
use Rattle.four_point.specs.Steps.{code_of}
use Rattle.four_point.specs.declared.patch.Patch.{Patch}
use Rattle.rice_residuals.specs.Code.{IsResidual}
use Rattle.store_model.specs.Blocks.{coded_values}
use Rattle.store_writer.specs.declared.cells.Cells.{Cells}
use Rattle.store_writer.specs.Entries.{code_over}
use Rattle.store_writer.specs.Cells.{region_of, AreCells, IsPatchOf}
use Rattle.store_writer.proofs.Blocks.{columns_of, rows_of}
use Rattle.store_writer.proofs.Rows.{values_same}

pub residual_fits : (x : ℤ) → IsResidual x → SFits w32 x
residual_fits x fits =
    let low = fits.0 in
    let high = fits.1 in
    grind (arith, ints)

pub code_same : (C D : ℤ → ℤ → ℤ) (step : ℕ) (i j height : ℤ) → prediction C i j ≡ prediction D i j → code_of C step i j height ≡ code_of D step i j height
unfolding code_of
code_same C D step i j height e = ap (λ (p : ℤ). floor_div ((height -ℤ p) +ℤ pos ((step - 1) / 2)) step) e

-- the cells of a block that begins at an eighth are those of its patch
pub of_block : (first : ℤ) (x a : ℕ) → x % 8 ≡ 0 → first ≡ pos (x / 2) -ℤ pos 1 → a < 8 → IsOfBlock first (pos (x + a))
of_block first x a even e few = record { low = omega (arith, ints); high = omega (arith, ints) }

pub patch_values : (C F : ℤ → ℤ → ℤ) (step : ℕ) (cells : Cells) (patch : Patch) → AreCells cells → IsPatchOf cells patch → ((i j : ℤ) → IsOfBlock patch.i0 i → IsOfBlock patch.j0 j → prediction (patch_height patch) i j ≡ prediction C i j) → coded_values (code_over (patch_height patch) F step) (region_of cells) ≡ coded_values (code_over C F step) (region_of cells)
unfolding region_of
patch_values C F step cells patch are place same =
    let wide = columns_of cells are.some_columns in
    let high = rows_of cells are.some_rows in
    let few_columns = are.few_columns in
    let few_rows = are.few_rows in
    values_same (code_over (patch_height patch) F step) (code_over C F step) (region_of cells)
    (λ a b l m.
    code_same (patch_height patch) C step (pos (cells.x0 + a)) (pos (cells.y0 + b)) (F (pos (cells.x0 + a)) (pos (cells.y0 + b)))
    (same (pos (cells.x0 + a)) (pos (cells.y0 + b)) (of_block patch.i0 cells.x0 a are.block_column place.column (omega arith)) (of_block patch.j0 cells.y0 b are.block_row place.row (omega arith))))

-- what holds of a patch holds of one that is the same
pub place_of : (patch other : Patch) (cells : Cells) → patch ≡ other → IsPatchOf cells patch → IsPatchOf cells other
place_of patch other cells e place = subst (IsPatchOf cells) e place

pub predictions_of : (patch other : Patch) (C : ℤ → ℤ → ℤ) → patch ≡ other → ((i j : ℤ) → IsOfBlock patch.i0 i → IsOfBlock patch.j0 j → prediction (patch_height patch) i j ≡ prediction C i j) → (i j : ℤ) → IsOfBlock other.i0 i → IsOfBlock other.j0 j → prediction (patch_height other) i j ≡ prediction C i j
predictions_of patch other C e same =
    subst (λ (p : Patch). (i j : ℤ) → IsOfBlock p.i0 i → IsOfBlock p.j0 j → prediction (patch_height p) i j ≡ prediction C i j) e same
