use Rattle.std.proofs.Common.{◌≡◌, pos, ◌-ℤ◌, ◌∙◌, nat_abs, get_or, [], arith, rules}
use Rattle.std.specs.Int.{w16, w32}
use Rattle.std.proofs.lemmas.Int.{ints, to_z-of_z}
use mir.Val.{SFits, to_z, of_z}
use Rattle.four_point.proofs.SumLemmas.{same, height_inside}
use Rattle.four_point.proofs.sums.height_of.Goals as goal

pub returns-clause-value : goal.returns-clause-value
returns-clause-value c =
    let patch = c.args.patch.now in
    let a = c.args.a in
    let b = c.args.b in
    let i_fits : SFits w32 patch.i0 = search rules in
    let j_fits : SFits w32 patch.j0 = search rules in
    let column : SFits w32 (a -ℤ patch.i0) = search rules in
    let row : SFits w32 (b -ℤ patch.j0) = search rules in
    let a_same : to_z w32 (of_z w32 a) ≡ a = same a c.ranges.a in
    let b_same : to_z w32 (of_z w32 b) ≡ b = same b c.ranges.b in
    let raw_row = to_z w32 (of_z w32 (to_z w32 (of_z w32 b) -ℤ to_z w32 (of_z w32 patch.j0))) in
    let raw_column = to_z w32 (of_z w32 (to_z w32 (of_z w32 a) -ℤ to_z w32 (of_z w32 patch.i0))) in
    let raw_fits : SFits w16 (get_or (get_or patch.h (nat_abs raw_row) []) (nat_abs raw_column) (pos 0)) = search rules in
    let bare = c.from.ensures ∙ to_z-of_z w16 _ raw_fits in
    let read = rw (a_same, b_same, same patch.i0 i_fits, same patch.j0 j_fits, same (a -ℤ patch.i0) column, same (b -ℤ patch.j0) row) at bare in
    let result_fits : SFits w32 c.from.result = search rules in
    same c.from.result result_fits
    ∙ height_inside patch a b c.from.result (omega (arith, ints)) (omega (arith, ints)) read
