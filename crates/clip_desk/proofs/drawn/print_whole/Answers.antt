use Rattle.std.proofs.Common.{refl}
use Rattle.clip_desk.specs.Lines.{closed_line}
use Rattle.clip_desk.proofs.Texts.{counts_are, text_is}
use Rattle.clip_desk.proofs.drawn.print_whole.Goals as goal

pub returns-clause-text : goal.returns-clause-text
returns-clause-text g c =
    text_is _ _ _ _ _ _ _ _ _ _ _ c.in-Ok.ensures.text c.header_of.ensures.number c.header_of.ensures.column c.header_of.ensures.row c.header_of.ensures.actives refl

pub returns-clause-line : goal.returns-clause-line
returns-clause-line g c =
    counts_are _ (closed_line c.args.pass c.args.note.now.number) _ _ _ _ c.in_ok-line.ensures.line c.vertices-vertices.ensures.value c.triangles.ensures.value
