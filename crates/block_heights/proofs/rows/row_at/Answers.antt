use Rattle.std.proofs.Common.{◌≡◌, ◌+◌, ◌+ℤ◌, ◌≤ℤ◌, ◌∙◌, pos, ap, sym, subst, rules, arith}
use Rattle.std.specs.Int.{w32}
use Rattle.std.proofs.lemmas.Int.{ints, to_z-of_z}
use mathlib.Core.Path.{ap₂}
use mir.Val.{SFits, to_z, of_z}
use Rattle.four_point.specs.Blocks.{first_cell}
use Rattle.four_point.specs.Patches.{patch_height, IsOfBlock}
use Rattle.four_point.specs.Prediction.{prediction}
use Rattle.four_point.specs.declared.patch.Patch.{Patch}
use Rattle.block_heights.proofs.CodedRows.{read_sum}
use Rattle.block_heights.proofs.Cells.{columns_is, rows_is, between}
use Rattle.block_heights.proofs.WholeRows.{value_is}
use Rattle.block_heights.proofs.rows.row_at.Goals as goal

pub row-requires : goal.row-requires
row-requires c =
    let region = c.args.codes.inside in
    let b = c.args.b in
    let y_fits : SFits w32 region.y0 = search rules in
    let next_fits : SFits w32 (region.y0 +ℤ pos b) = search rules in
    let b_is : to_z w32 b ≡ pos b = search rules in
    let p = c.requires.patch in
    let down = rows_is region c.requires.inside.some_rows in
    let few = c.requires.row in
    let first : region.y0 ≤ℤ (region.y0 +ℤ pos b) = omega (arith, ints) in
    let last : (region.y0 +ℤ pos b) ≤ℤ region.y1 = omega (arith, ints, down, few) in
    record {
      row =
          subst (λ (q : Patch). IsOfBlock q.j0 (to_z w32 (of_z w32 (to_z w32 (of_z w32 region.y0) +ℤ to_z w32 b)))) (sym c.requires.predicted)
          (subst (IsOfBlock c.args.codes.patch.now.j0) (sym (read_sum region.y0 (to_z w32 b) b b_is y_fits next_fits))
          (between c.args.codes.patch.now.j0 region.y0 region.y1 (region.y0 +ℤ pos b) p.first_row p.last_row first last));
    }

pub returns-clause-room : goal.returns-clause-room
returns-clause-room c =
    let region = c.args.codes.inside in
    let x_fits : SFits w32 region.x0 = search rules in
    let i_fits : SFits w32 c.args.codes.patch.now.i0 = search rules in
    let place = simp to_z-of_z at c.columns_before.ensures.place in
    let across = columns_is region c.requires.inside.some_columns in
    let last = c.requires.patch.last_column.high in
    omega (arith, ints, place, across, last)

pub returns-clause-values : goal.returns-clause-values
returns-clause-values c = λ a room.
    let region = c.args.codes.inside in
    let patch = c.args.codes.patch.now in
    let b = c.args.b in
    let before = c.columns_before.result in
    let x_fits : SFits w32 region.x0 = search rules in
    let i_fits : SFits w32 patch.i0 = search rules in
    let y_fits : SFits w32 region.y0 = search rules in
    let next_fits : SFits w32 (region.y0 +ℤ pos b) = search rules in
    let b_is : to_z w32 b ≡ pos b = search rules in
    let place = simp to_z-of_z at c.columns_before.ensures.place in
    let column : (first_cell patch.i0 +ℤ pos (before + a)) ≡ region.x0 +ℤ pos a = omega (arith, ints, place) in
    let row = read_sum region.y0 (to_z w32 b) b b_is y_fits next_fits in
    value_is (patch_height patch) c.args.codes.step region c.args.codes.table.now c.row.result before a b
    (c.row.ensures.values (before + a) room
    ∙ ap (λ (p : Patch). prediction (patch_height p) (first_cell p.i0 +ℤ pos (before + a)) (to_z w32 (of_z w32 (to_z w32 (of_z w32 region.y0) +ℤ to_z w32 b)))) c.requires.predicted
    ∙ ap₂ (prediction (patch_height patch)) column row)

pub returns-clause-in_range : goal.returns-clause-in_range
returns-clause-in_range c = c.requires.in_range c.args.b
