use Rattle.book_plan.specs.Notes.{open_frame}
use Rattle.clip_desk.proofs.Texts.{line_of, text_of}
use Rattle.clip_desk.proofs.drawn.draw_whole.Goals as goal

pub returns-in-Ok-clause-text : goal.returns-in-Ok-clause-text
returns-in-Ok-clause-text g c =
    text_of c.print_whole.result (open_frame c.args.note.now) _ _ c.print_whole.ensures.text (c.in-Ok.ensures.mesh (open_frame c.args.note.now) c.requires.frame)

pub returns-in-Ok-clause-line : goal.returns-in-Ok-clause-line
returns-in-Ok-clause-line g c =
    line_of c.print_whole.result c.args.pass c.args.note.now.number _ _ c.print_whole.ensures.line (c.in-Ok.ensures.mesh (open_frame c.args.note.now) c.requires.frame)
