-- Both coordinates are read back.
use Rattle.std.proofs.Common.{rules, append_assoc, w32}
use mir.Val.{SFits}
use Rattle.std.proofs.lemmas.Int.{to_z-of_z}
use Rattle.mesh_model.specs.Text.{viewer_line}
use Rattle.mesh_plain_texts.proofs.lines.ViewerLineDisplay.fmt.Goals as goal

pub returns-clause-writes : goal.returns-clause-writes
unfolding viewer_line
returns-clause-writes g c = λ plain ok.
    let x_fits : SFits w32 c.args.self.now.x = search rules in
    let y_fits : SFits w32 c.args.self.now.y = search rules in
    let written = simp to_z-of_z at (c.writeln.ensures.writes plain ok) in
    simp append_assoc written
