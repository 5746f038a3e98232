-- The three numbers are read back.
use Rattle.std.proofs.Common.{rules, append_assoc, w32}
use mir.Val.{SFits}
use Rattle.std.proofs.lemmas.Int.{to_z-of_z}
use Rattle.mesh_model.specs.Text.{vertex_line}
use Rattle.mesh_plain_texts.proofs.lines.VertexLineDisplay.fmt.Goals as goal

pub returns-clause-writes : goal.returns-clause-writes
unfolding vertex_line
returns-clause-writes g c = λ plain ok.
    let vertex = c.args.self.now.0 in
    let x_fits : SFits w32 vertex.x = search rules in
    let z_fits : SFits w32 vertex.z = search rules in
    let height_fits : SFits w32 vertex.height = search rules in
    let written = simp to_z-of_z at (c.writeln.ensures.writes plain ok) in
    simp append_assoc written
