use Rattle.std.proofs.Common.{◌∙◌, ◌++◌, List, Bool, SFits, w32, of_z, to_z, pos, get_or, append-nil, sym, ap, rules}
use Rattle.std.proofs.lemmas.Int.{to_z-of_z}
use Rattle.rice_residuals.proofs.CodeRead.{codes-none}
use Rattle.rice_residuals.proofs.CodeWrite.{codes_pushed}
use Rattle.rice_residuals.proofs.encoding.write_codes.Goals as goal

pub loop-value-init : goal.loop-value-init
loop-value-init c =
    sym (ap (λ (x : List Bool). c.args.writer.now ++ x) (codes-none c.args.parameter) ∙ append-nil c.args.writer.now)

pub loop-value-preserved : goal.loop-value-preserved
loop-value-preserved c =
    let xs = c.args.residuals.now in
    let i = c.loop-value.value-index in
    let x = get_or xs i (pos 0) in
    let fits : SFits w32 x = search rules in
    codes_pushed c.args.parameter xs i (to_z w32 (of_z w32 x)) c.fold.result c.args.writer.now c.loop-value.writer c.write_code.new.writer c.loop-value-test.true (sym (to_z-of_z w32 x fits)) c.fold.ensures.code c.loop-value.invariant c.in_ok-write_code.ensures
