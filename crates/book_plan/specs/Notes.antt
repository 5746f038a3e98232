-- A frame as a note tells it.
use Rattle.plan_model.specs.States.{OpenFrame}
use Rattle.book_plan.specs.declared.plan.FrameNote.{FrameNote}

-- the open frame of a note
abbrev pub open_frame : FrameNote → OpenFrame
open_frame note = record { number = note.number; x = note.x; y = note.y; actives = note.actives }
