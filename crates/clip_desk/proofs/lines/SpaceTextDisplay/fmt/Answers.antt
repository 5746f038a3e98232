use Rattle.std.proofs.Common.{rules, append_assoc, w32, w64}
use mir.Val.{SFits}
use Rattle.std.proofs.lemmas.Int.{to_z-of_z}
use Rattle.clip_desk.specs.Lines.{space_text}
use Rattle.clip_desk.proofs.lines.SpaceTextDisplay.fmt.Goals as goal

pub returns-clause-writes : goal.returns-clause-writes
unfolding space_text
returns-clause-writes g c = λ plain ok.
    let space = c.args.self.now.0 in
    let a : SFits w32 space.a = search rules in
    let b : SFits w32 space.b = search rules in
    let z : SFits w32 space.c = search rules in
    let d : SFits w64 space.d = search rules in
    let written = simp to_z-of_z at (c.write.ensures.writes plain ok) in
    simp append_assoc written
