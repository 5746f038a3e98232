-- The sign, the whole part and the five digits, one after another.
use Rattle.std.proofs.Common.{rules, w32}
use Rattle.std.proofs.Output.{has_written_of_eq}
use mir.Val.{SFits}
use Rattle.std.proofs.lemmas.Int.{to_z-of_z}
use Rattle.mesh_plain_texts.proofs.Digits.{height_is}
use Rattle.mesh_plain_texts.proofs.lines.HeightTextDisplay.fmt.Goals as goal

pub returns-clause-writes : goal.returns-clause-writes
returns-clause-writes g c = λ plain ok.
    let height = c.args.self.now.0 in
    let fits : SFits w32 height = search rules in
    let sign = simp to_z-of_z at c.sign_of-sign.ensures in
    let size = simp to_z-of_z at c.unsigned_abs-size.ensures.value in
    let written = rw c.laid_out.ensures at (c.write.ensures.writes plain ok) in
    has_written_of_eq _ _ _ _ _ (height_is height c.sign_of-sign.result.now c.unsigned_abs-size.result sign size) written
