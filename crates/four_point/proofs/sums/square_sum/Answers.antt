use Rattle.std.proofs.Common.{pos, ◌+ℤ◌, ◌-ℤ◌, ◌∙◌, rules}
use Rattle.std.specs.Int.{w32}
use Rattle.std.proofs.lemmas.Int.{to_z-of_z}
use mir.Val.{SFits}
use Rattle.four_point.specs.Patches.{patch_height}
use Rattle.four_point.proofs.SumLemmas.{same, size_same, square_of_four}
use Rattle.four_point.proofs.sums.square_sum.Goals as goal

pub returns-clause-value : goal.returns-clause-value
returns-clause-value c =
    let a_fits : SFits w32 c.args.a = c.ranges.a in
    let b_fits : SFits w32 c.args.b = c.ranges.b in
    let before_fits : SFits w32 (c.args.b -ℤ pos 1) = search rules in
    let far_fits : SFits w32 (c.args.b +ℤ pos 1) = search rules in
    let beyond_fits : SFits w32 (c.args.b +ℤ pos 2) = search rules in
    let p_fits : SFits w32 c.row_sum.result = search rules in
    let q_fits : SFits w32 c.row_sum-2.result = search rules in
    let r_fits : SFits w32 c.row_sum-3.result = search rules in
    let s_fits : SFits w32 c.row_sum-4.result = search rules in
    let p = simp to_z-of_z at c.row_sum.ensures.value in
    let q = simp to_z-of_z at c.row_sum-2.ensures.value in
    let r = simp to_z-of_z at c.row_sum-3.ensures.value in
    let s = simp to_z-of_z at c.row_sum-4.ensures.value in
    let sum = simp to_z-of_z at c.weighted.ensures.value in
    let total_fits : SFits w32 c.weighted.result = search rules in
    same c.weighted.result total_fits
    ∙ square_of_four (patch_height c.args.patch.now) c.args.a c.args.b _ _ _ _ c.weighted.result p q r s sum

pub returns-clause-size : goal.returns-clause-size
returns-clause-size c =
    let p_fits : SFits w32 c.row_sum.result = search rules in
    let q_fits : SFits w32 c.row_sum-2.result = search rules in
    let r_fits : SFits w32 c.row_sum-3.result = search rules in
    let s_fits : SFits w32 c.row_sum-4.result = search rules in
    let total_fits : SFits w32 c.weighted.result = search rules in
    size_same 13107200 c.weighted.result total_fits
    (c.weighted.ensures.size 655360
    (size_same 655360 _ p_fits c.row_sum.ensures.size)
    (size_same 655360 _ q_fits c.row_sum-2.ensures.size)
    (size_same 655360 _ r_fits c.row_sum-3.ensures.size)
    (size_same 655360 _ s_fits c.row_sum-4.ensures.size))
