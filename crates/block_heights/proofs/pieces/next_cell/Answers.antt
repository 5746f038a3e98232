use Rattle.std.proofs.Common.{◌≡◌, pos, ◌+ℤ◌, true, false, sym, ◌∙◌, refl, rules}
use Rattle.std.specs.Int.{w32}
use Rattle.std.proofs.lemmas.Int.{to_z-of_z}
use lib.Signed.{lt_z}
use mathlib.Core.Path.{ap₂}
use mir.Val.{SFits}
use Rattle.clip_regions.proofs.Cells.{tested_lt, tested_not_lt}
use Rattle.block_heights.proofs.CodedRows.{read_sum}
use Rattle.block_heights.proofs.Cells.{cell_next, cell_wraps, cell_same}
use Rattle.block_heights.proofs.pieces.next_cell.Goals as goal

pub returns-then-cell-region : goal.returns-then-cell-region
returns-then-cell-region c = λ k e f.
    let region = c.args.region in
    let i = c.args.cell.i in
    let j = c.args.cell.j in
    let i_fits : SFits w32 i = search rules in
    let j_fits : SFits w32 j = search rules in
    let last_fits : SFits w32 region.x1 = search rules in
    let next_fits : SFits w32 (i +ℤ pos 1) = search rules in
    let test : lt_z i region.x1 ≡ true = sym (ap₂ lt_z (to_z-of_z w32 i i_fits) (to_z-of_z w32 region.x1 last_fits)) ∙ c.if-cell-region.true in
    cell_same region _ (i +ℤ pos 1) j _ _
    (read_sum i (pos 1) 1 refl i_fits next_fits)
    (to_z-of_z w32 j j_fits)
    (cell_next region k i j (i +ℤ pos 1) c.requires.region e f (tested_lt i region.x1 test) refl)

pub returns-else-cell-region : goal.returns-else-cell-region
returns-else-cell-region c = λ k e f.
    let region = c.args.region in
    let i = c.args.cell.i in
    let j = c.args.cell.j in
    let i_fits : SFits w32 i = search rules in
    let j_fits : SFits w32 j = search rules in
    let first_fits : SFits w32 region.x0 = search rules in
    let last_fits : SFits w32 region.x1 = search rules in
    let next_fits : SFits w32 (j +ℤ pos 1) = search rules in
    let test : lt_z i region.x1 ≡ false = sym (ap₂ lt_z (to_z-of_z w32 i i_fits) (to_z-of_z w32 region.x1 last_fits)) ∙ c.if-cell-region.false in
    cell_same region _ region.x0 (j +ℤ pos 1) _ _
    (to_z-of_z w32 region.x0 first_fits)
    (read_sum j (pos 1) 1 refl j_fits next_fits)
    (cell_wraps region k i j (j +ℤ pos 1) c.requires.region e f (tested_not_lt i region.x1 test) refl)
