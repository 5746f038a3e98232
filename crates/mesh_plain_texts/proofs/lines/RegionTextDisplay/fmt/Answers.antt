-- An empty region has one word, and the corners of another are read back.
use Rattle.std.proofs.Common.{◌≡◌, true, false, rules, append_assoc, sym, w32}
use mir.Val.{SFits}
use Rattle.std.proofs.lemmas.Int.{to_z-of_z}
use Rattle.clip_regions.specs.Regions.{is_empty}
use Rattle.mesh_model.specs.Text.{region_text}
use Rattle.mesh_plain_texts.proofs.lines.RegionTextDisplay.fmt.Goals as goal

pub returns-then-is_empty-clause-writes : goal.returns-then-is_empty-clause-writes
unfolding region_text
returns-then-is_empty-clause-writes g c = λ plain ok.
    let e : is_empty c.args.self.now.0 ≡ true = sym c.if-is_empty.ensures.value in
    rw e (c.write.ensures.writes plain ok)

pub returns-clause-writes : goal.returns-clause-writes
unfolding region_text
returns-clause-writes g c = λ plain ok.
    let region = c.args.self.now.0 in
    let e : is_empty region ≡ false = sym c.if-is_empty.ensures.value in
    let x0_fits : SFits w32 region.x0 = search rules in
    let y0_fits : SFits w32 region.y0 = search rules in
    let x1_fits : SFits w32 region.x1 = search rules in
    let y1_fits : SFits w32 region.y1 = search rules in
    let written = simp to_z-of_z at (c.write-2.ensures.writes plain ok) in
    rw e (simp append_assoc written)
