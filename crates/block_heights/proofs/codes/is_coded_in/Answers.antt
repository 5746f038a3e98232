use Rattle.std.proofs.Common.{◌≡◌, ◌+ℤ◌, ◌∙◌, pos, rules}
use Rattle.std.specs.Int.{w32}
use mir.Val.{SFits, to_z}
use mathlib.Core.Path.{ap₂}
use Rattle.store_model.specs.Blocks.{is_coded}
use Rattle.block_heights.proofs.CodedRows.{read_sum}
use Rattle.block_heights.proofs.codes.is_coded_in.Goals as goal

pub returns : goal.returns
returns c =
    let x_fits : SFits w32 c.args.region.x0 = search rules in
    let y_fits : SFits w32 c.args.region.y0 = search rules in
    let column_fits : SFits w32 (c.args.region.x0 +ℤ pos c.args.a) = search rules in
    let row_fits : SFits w32 (c.args.region.y0 +ℤ pos c.args.b) = search rules in
    let a_is : to_z w32 c.args.a ≡ pos c.args.a = search rules in
    let b_is : to_z w32 c.args.b ≡ pos c.args.b = search rules in
    c.is_coded.ensures
    ∙ ap₂ is_coded (read_sum c.args.region.x0 (to_z w32 c.args.a) c.args.a a_is x_fits column_fits) (read_sum c.args.region.y0 (to_z w32 c.args.b) c.args.b b_is y_fits row_fits)
