use Rattle.std.proofs.Common.{ap, ◌∙◌}
use Rattle.mesh_model.specs.Mesh.{MeshLists}
use Rattle.book_plan.specs.Notes.{open_frame}
use Rattle.clip_desk.specs.Lines.{told_line}
use Rattle.clip_desk.proofs.Texts.{counts_are, text_is}
use Rattle.clip_desk.proofs.drawn.draw_alone.Goals as goal

pub returns-clause-text : goal.returns-clause-text
returns-clause-text g c =
    text_is _ _ _ _ _ _ _ _ _ _ _ c.in-Ok-frame_text_beside.ensures.text c.header_of.ensures.number c.header_of.ensures.column c.header_of.ensures.row c.header_of.ensures.actives
    (c.in-Ok.ensures.mesh (open_frame c.args.note.now) c.requires.frame)

pub returns-clause-line : goal.returns-clause-line
returns-clause-line g c =
    let is = c.in-Ok.ensures.mesh (open_frame c.args.note.now) c.requires.frame in
    counts_are _ (told_line c.args.note.now.number) _ _ _ _ c.in_ok-line.ensures.line (c.vertices-vertices.ensures.value ∙ ap (λ (m : MeshLists). m.vertices) is) (c.triangles.ensures.value ∙ ap (λ (m : MeshLists). m.triangles) is)
