use Rattle.std.proofs.Common.{rules, append_assoc, w32}
use mir.Val.{SFits}
use Rattle.std.proofs.lemmas.Int.{to_z-of_z}
use Rattle.clip_script.proofs.text.RegionTextDisplay.fmt.Goals as goal

pub returns-clause-writes : goal.returns-clause-writes
returns-clause-writes g c = λ plain ok.
    let region = c.args.self.now.0 in
    let x0 : SFits w32 region.x0 = search rules in
    let y0 : SFits w32 region.y0 = search rules in
    let x1 : SFits w32 region.x1 = search rules in
    let y1 : SFits w32 region.y1 = search rules in
    let written = simp to_z-of_z at (c.write.ensures.writes plain ok) in
    simp append_assoc written
