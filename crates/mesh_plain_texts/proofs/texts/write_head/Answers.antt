-- The viewer is read back, and the levels follow the first two lines.
use Rattle.std.proofs.Common.{rules, append_assoc, w32}
use Rattle.std.proofs.lemmas.Result.{IfOk-equal}
use Rattle.std.proofs.lemmas.Int.{to_z-of_z}
use Rattle.mesh_model.specs.Text.{head_text}
use Rattle.mesh_plain_texts.proofs.texts.write_head.Goals as goal
use mir.Val.{SFits}

pub returns : goal.returns
unfolding head_text
returns c =
    let x_fits : SFits w32 c.args.head.now.x = search rules in
    let y_fits : SFits w32 c.args.head.now.y = search rules in
    let written = simp to_z-of_z at c.in_ok-write.ensures.bytes in
    search (rules, IfOk-equal, append_assoc)
