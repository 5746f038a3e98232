use Rattle.std.proofs.Common.{ap, length, ◌∙◌}
use Rattle.book_plan.specs.Notes.{open_frame}
use Rattle.clip_desk.proofs.Texts.{flags_keep, seen_is, seen_line_is}
use Rattle.clip_desk.proofs.drawn.draw_seen.Goals as goal

pub returns-clause-text : goal.returns-clause-text
returns-clause-text c =
    let is = c.in-Ok.ensures.mesh (open_frame c.args.note.now) c.requires.frame in
    let kept = flags_keep c.args.view.now _ c.parts.result.now c.in-Ok.mesh (c.as_slice.ensures.value ∙ c.in_ok-keep.ensures.flags) c.parts.ensures.value in
    seen_is _ _ _ _ _ _ _ _ _ _ _ _ c.args.view.now c.in-Ok-cull.ensures.text kept c.header_of.ensures.number c.header_of.ensures.column c.header_of.ensures.row c.header_of.ensures.actives is

pub returns-clause-line : goal.returns-clause-line
returns-clause-line c =
    let is = c.in-Ok.ensures.mesh (open_frame c.args.note.now) c.requires.frame in
    let kept = flags_keep c.args.view.now _ c.parts.result.now c.in-Ok.mesh (c.as_slice.ensures.value ∙ c.in_ok-keep.ensures.flags) c.parts.ensures.value in
    seen_line_is _ _ _ _ _ _ _ c.in-Ok.mesh _ _ c.args.view.now c.in_ok-line.ensures.line c.in-Ok-cull.ensures.parts (ap length c.parts-2.ensures.value) c.in-Ok-cull.ensures.vertices c.in-Ok-cull.ensures.triangles kept is
