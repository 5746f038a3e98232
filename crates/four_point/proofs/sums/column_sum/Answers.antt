use Rattle.std.proofs.Common.{pos, ◌+ℤ◌, ◌-ℤ◌, ◌∙◌, rules}
use Rattle.std.specs.Int.{w32}
use Rattle.std.proofs.lemmas.Int.{to_z-of_z}
use mir.Val.{SFits}
use Rattle.four_point.specs.Patches.{patch_height}
use Rattle.four_point.proofs.SumLemmas.{same, size_same, column_of_four}
use Rattle.four_point.proofs.sums.column_sum.Goals as goal

pub returns-clause-value : goal.returns-clause-value
returns-clause-value c =
    let a_fits : SFits w32 c.args.a = c.ranges.a in
    let b_fits : SFits w32 c.args.b = c.ranges.b in
    let before_fits : SFits w32 (c.args.b -ℤ pos 1) = search rules in
    let far_fits : SFits w32 (c.args.b +ℤ pos 1) = search rules in
    let beyond_fits : SFits w32 (c.args.b +ℤ pos 2) = search rules in
    let p_fits : SFits w32 c.height_of.result = search rules in
    let q_fits : SFits w32 c.height_of-2.result = search rules in
    let r_fits : SFits w32 c.height_of-3.result = search rules in
    let s_fits : SFits w32 c.height_of-4.result = search rules in
    let p = simp to_z-of_z at c.height_of.ensures.value in
    let q = simp to_z-of_z at c.height_of-2.ensures.value in
    let r = simp to_z-of_z at c.height_of-3.ensures.value in
    let s = simp to_z-of_z at c.height_of-4.ensures.value in
    let sum = simp to_z-of_z at c.weighted.ensures.value in
    let total_fits : SFits w32 c.weighted.result = search rules in
    same c.weighted.result total_fits
    ∙ column_of_four (patch_height c.args.patch.now) c.args.a c.args.b _ _ _ _ c.weighted.result p q r s sum

pub returns-clause-size : goal.returns-clause-size
returns-clause-size c =
    let p_fits : SFits w32 c.height_of.result = search rules in
    let q_fits : SFits w32 c.height_of-2.result = search rules in
    let r_fits : SFits w32 c.height_of-3.result = search rules in
    let s_fits : SFits w32 c.height_of-4.result = search rules in
    let total_fits : SFits w32 c.weighted.result = search rules in
    size_same 655360 c.weighted.result total_fits
    (c.weighted.ensures.size 32768
    (size_same 32768 _ p_fits c.height_of.ensures.size)
    (size_same 32768 _ q_fits c.height_of-2.ensures.size)
    (size_same 32768 _ r_fits c.height_of-3.ensures.size)
    (size_same 32768 _ s_fits c.height_of-4.ensures.size))
