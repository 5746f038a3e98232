use Rattle.std.proofs.Common.{ap, ◌∙◌}
use Rattle.book_plan.specs.Notes.{open_frame}
use Rattle.clip_gate.specs.Passes.{ClipView}
use Rattle.clip_frames.proofs.ReadLevels.{as_many, read_none}
use Rattle.clip_frames.proofs.reading.read_frame.Goals as goal

pub read_all-requires-clause-levels : goal.read_all-requires-clause-levels
read_all-requires-clause-levels g c =
    as_many c.actives_are_as_many.ensures c.steps_go_on.ensures c.args.pass.now (open_frame c.args.note.now) c.requires.frame ∙ ap (λ (clip : ClipView). clip.land.levels) c.requires.clip

pub read_all-requires-clause-read : goal.read_all-requires-clause-read
read_all-requires-clause-read g c =
    read_none c.args.clip.now.land.terrain c.args.k c.args.note.now.actives c.in_ok-copies.copies c.in_ok-copies.ensures.room
