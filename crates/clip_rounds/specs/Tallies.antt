-- The numbers of a flight: how many frames ended, how many vertices and triangles they have, how many bytes their texts
-- have, and how many jobs were kept.
use Rattle.std.specs.Prelude.{ℕ, ◌+◌, List, [], ◌∷◌, length, Option, Some, None}
use Rattle.terrain_model.specs.Terrain.{Terrain}
use Rattle.plan_model.specs.States.{State, OpenFrame, pass_at, frame_of}
use Rattle.plan_model.specs.Steps.{step}
use Rattle.plan_model.specs.declared.events.Entry.{Entry}
use Rattle.plan_model.specs.declared.events.Event.{Event}
use Rattle.plan_model.specs.declared.events.Event.TheVariants.{Finish, End}
use Rattle.plan_model.specs.declared.events.Answer.{Answer}
use Rattle.plan_model.specs.declared.events.Answer.TheVariants.{Kept}
use Rattle.mesh_model.specs.Mesh.{MeshLists}
use Rattle.clip_desk.specs.Frames.{mesh_of, whole_text_of}
use Rattle.clip_rounds.specs.declared.tally.Tally.{Tally}

-- the numbers of nothing
abbrev pub no_tally : Tally
no_tally = record { frames = 0; vertices = 0; triangles = 0; pieces = 0; bytes = 0 }

-- with one more frame, of this mesh and so many bytes
abbrev pub with_mesh : Tally → MeshLists → ℕ → Tally
with_mesh tally made bytes = record {
  frames = tally.frames + 1;
  vertices = tally.vertices + length made.vertices;
  triangles = tally.triangles + length made.triangles;
  pieces = tally.pieces;
  bytes = tally.bytes + bytes;
}

-- with one more frame, if one ended
abbrev pub with_frame : Terrain → ℕ → Tally → Option OpenFrame → Tally
with_frame terrain k tally None = tally
with_frame terrain k tally (Some frame) =
    with_mesh tally (mesh_of terrain k frame) (length (whole_text_of frame (mesh_of terrain k frame)))

-- with one more piece, if a job that was given back is kept
abbrev pub with_kept : Tally → Answer → Tally
with_kept tally Kept = record {
  frames = tally.frames;
  vertices = tally.vertices;
  triangles = tally.triangles;
  pieces = tally.pieces + 1;
  bytes = tally.bytes;
}
with_kept tally _ = tally

-- with an event of a pass
abbrev pub with_event : Terrain → State → ℕ → Event → Tally → Tally
with_event terrain st p Finish tally = with_kept tally (step st p Finish).answer
with_event terrain st p End tally = with_frame terrain st.k tally (frame_of (pass_at st p))
with_event terrain st p _ tally = tally

-- with the events of a history from a state on
abbrev pub with_history : Terrain → State → List Entry → Tally → Tally
with_history terrain st [] tally = tally
with_history terrain st (e ∷ rest) tally =
    with_history terrain (step st e.pass e.event).state rest (with_event terrain st e.pass e.event tally)
