use Rattle.std.proofs.Common.{SFits, w32, of_z, to_z, pos, get_or, length, sym, ap, arith, rules}
use Rattle.std.proofs.lemmas.Int.{to_z-of_z}
use Rattle.rice_residuals.proofs.CodeRead.{codes-none}
use Rattle.rice_residuals.proofs.CodeWrite.{codes_length_more}
use Rattle.rice_residuals.proofs.encoding.codes_length.Goals as goal

pub loop-value-init : goal.loop-value-init
loop-value-init c = record { total = sym (ap length (codes-none c.args.parameter)); few = omega arith }

pub loop-value-preserved : goal.loop-value-preserved
loop-value-preserved c =
    let xs = c.args.residuals.now in
    let i = c.loop-value.value-index in
    let x = get_or xs i (pos 0) in
    let fits : SFits w32 x = search rules in
    let more = codes_length_more c.args.parameter xs i (to_z w32 (of_z w32 x)) c.fold.result c.loop-value-test.true (sym (to_z-of_z w32 x fits)) c.fold.ensures.code in
    let inv = c.loop-value.invariant in
    let one = c.code_length-total.ensures in
    record { total = omega arith; few = omega arith }
