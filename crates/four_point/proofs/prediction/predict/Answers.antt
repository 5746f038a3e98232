use Rattle.std.proofs.Common.{◌∙◌, rules}
use Rattle.std.specs.Int.{w32}
use Rattle.std.proofs.lemmas.Int.{to_z-of_z}
use mir.Val.{SFits}
use Rattle.four_point.specs.Patches.{patch_height}
use Rattle.four_point.proofs.SumLemmas.{same}
use Rattle.four_point.proofs.PredictionLemmas.{odd_even, even_odd, odd_odd}
use Rattle.four_point.proofs.prediction.predict.Goals as goal

pub returns-in-true-true-clause-value : goal.returns-in-true-true-clause-value
returns-in-true-true-clause-value c =
    let i_fits : SFits w32 c.args.i = c.ranges.i in
    let j_fits : SFits w32 c.args.j = c.ranges.j in
    let a_fits : SFits w32 c.half-a.result = search rules in
    let b_fits : SFits w32 c.half-b.result = search rules in
    let sum_fits : SFits w32 c.square_sum.result = search rules in
    let result_fits : SFits w32 c.rounded_over_256.result = search rules in
    let column = simp to_z-of_z at c.in-true-true.ensures in
    let row = simp to_z-of_z at c.in-true-true.ensures' in
    let left = simp to_z-of_z at c.half-a.ensures.value in
    let top = simp to_z-of_z at c.half-b.ensures.value in
    let sum = simp to_z-of_z at c.square_sum.ensures.value in
    let value = simp to_z-of_z at c.rounded_over_256.ensures.value in
    same c.rounded_over_256.result result_fits
    ∙ odd_odd (patch_height c.args.patch.now) c.args.i c.args.j c.half-a.result c.half-b.result c.square_sum.result c.rounded_over_256.result column row left top sum value

pub returns-in-true-false-clause-value : goal.returns-in-true-false-clause-value
returns-in-true-false-clause-value c =
    let i_fits : SFits w32 c.args.i = c.ranges.i in
    let j_fits : SFits w32 c.args.j = c.ranges.j in
    let a_fits : SFits w32 c.half-a.result = search rules in
    let b_fits : SFits w32 c.half-b.result = search rules in
    let sum_fits : SFits w32 c.row_sum.result = search rules in
    let result_fits : SFits w32 c.rounded_over_16.result = search rules in
    let column = simp to_z-of_z at c.in-true-false.ensures in
    let row = simp to_z-of_z at c.in-true-false.ensures' in
    let left = simp to_z-of_z at c.half-a.ensures.value in
    let top = simp to_z-of_z at c.half-b.ensures.value in
    let sum = simp to_z-of_z at c.row_sum.ensures.value in
    let value = simp to_z-of_z at c.rounded_over_16.ensures.value in
    same c.rounded_over_16.result result_fits
    ∙ odd_even (patch_height c.args.patch.now) c.args.i c.args.j c.half-a.result c.half-b.result c.row_sum.result c.rounded_over_16.result column row left top sum value

pub returns-in-false-true-clause-value : goal.returns-in-false-true-clause-value
returns-in-false-true-clause-value c =
    let i_fits : SFits w32 c.args.i = c.ranges.i in
    let j_fits : SFits w32 c.args.j = c.ranges.j in
    let a_fits : SFits w32 c.half-a.result = search rules in
    let b_fits : SFits w32 c.half-b.result = search rules in
    let sum_fits : SFits w32 c.column_sum.result = search rules in
    let result_fits : SFits w32 c.rounded_over_16-in-false-true.result = search rules in
    let column = simp to_z-of_z at c.in-false-true.ensures in
    let row = simp to_z-of_z at c.in-false-true.ensures' in
    let left = simp to_z-of_z at c.half-a.ensures.value in
    let top = simp to_z-of_z at c.half-b.ensures.value in
    let sum = simp to_z-of_z at c.column_sum.ensures.value in
    let value = simp to_z-of_z at c.rounded_over_16-in-false-true.ensures.value in
    same c.rounded_over_16-in-false-true.result result_fits
    ∙ even_odd (patch_height c.args.patch.now) c.args.i c.args.j c.half-a.result c.half-b.result c.column_sum.result c.rounded_over_16-in-false-true.result column row left top sum value
