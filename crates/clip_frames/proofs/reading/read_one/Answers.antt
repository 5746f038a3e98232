use Rattle.std.proofs.Common.{◌∙◌, ap}
use Rattle.book_plan.specs.Notes.{open_frame}
use Rattle.decode_workers.specs.Copies.{heights_in}
use Rattle.clip_frames.proofs.ReadLevels.{some_frame, is_shown, room_for, read_more}
use Rattle.clip_frames.proofs.reading.read_one.Goals as goal

pub read_level-requires-clause-frame : goal.read_level-requires-clause-frame
read_level-requires-clause-frame g c = some_frame c.args.pass.now (open_frame c.args.note.now) c.requires.frame

pub read_level-requires-clause-room : goal.read_level-requires-clause-room
read_level-requires-clause-room g c =
    room_for c.args.clip.now.land.terrain c.args.pass.now (open_frame c.args.note.now) c.args.copies.now c.args.level c.level_mut-out.result.now c.requires.read c.requires.there c.requires.frame c.requires.regions c.level_mut-out.ensures.value

pub returns-clause-read : goal.returns-clause-read
returns-clause-read g c =
    read_more c.args.clip.now.land.terrain c.args.copies.now c.args.level c.read_level.new.out c.requires.read c.requires.there
    (c.read_level.ensures.heights ∙ ap (heights_in c.args.clip.now.land.terrain c.args.level) (is_shown c.args.pass.now (open_frame c.args.note.now) c.args.copies.now.actives c.args.level c.requires.frame c.requires.regions))
