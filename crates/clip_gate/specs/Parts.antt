-- What the code keeps of a pass's part.
use Rattle.std.specs.Prelude.{◌≡◌, true, not, None, option_map}
use Rattle.plan_model.specs.States.{Pass, frame_of, has_work}
use Rattle.book_plan.specs.Notes.{open_frame}
use Rattle.clip_gate.specs.declared.part.Part.{Part}

-- whether there is neither a job nor a frame, and the frame where there is one
pub record IsPart (part : Part) (work : Pass) : Type 0 where
  pub idle : part.free ≡ not (has_work work)
  pub frame : option_map open_frame part.frame ≡ frame_of work

-- the part of a pass that is free
abbrev pub no_part : Part
no_part = record { free = true; frame = None }
