-- What the steps of a play script do over a terrain: each event is answered by the plan, a frame that ends is put, and
-- then the step's line is written.
use Rattle.std.specs.Prelude.{ℕ, List, [], ◌∷◌, ◌++◌, Option, Some, None}
use Rattle.terrain_model.specs.Terrain.{Terrain}
use Rattle.plan_model.specs.States.{State, OpenFrame, start_state, pass_at, frame_of}
use Rattle.plan_model.specs.Steps.{step}
use Rattle.plan_model.specs.declared.events.Event.{Event}
use Rattle.plan_model.specs.declared.events.Event.TheVariants.{End}
use Rattle.plan_model.specs.declared.events.Answer.TheVariants.{NoFrame}
use Rattle.mesh_model.specs.declared.shapes.HalfSpace.{HalfSpace}
use Rattle.clip_script.specs.declared.step.Step.{Step}
use Rattle.clip_script.specs.declared.step.Step.TheVariants.{Book, See, EndSeen}
use Rattle.clip_script.specs.Texts.{log_line}
use Rattle.run_actions.specs.Actions.{Action, Put, Write}
use Rattle.clip_desk.specs.Frames.{frame_name, mesh_of, seen_text_of, whole_text_of}
use Rattle.clip_desk.specs.Lines.{mesh_line, seen_line, unseen_line, view_line}

-- what a play knows between two steps: the state of the plan, and the view, which has no half-space at first
pub record Scene : Type 0 where
  pub state : State
  pub view : List HalfSpace

abbrev pub start_scene : ℕ → ℕ → Scene
start_scene k levels = record { state = start_state k levels; view = [] }

-- the scene after a step
abbrev pub after_step : Scene → Step → Scene
after_step scene (Book p event) = record { state = (step scene.state p event).state; view = scene.view }
after_step scene (See view) = record { state = scene.state; view = view }
after_step scene (EndSeen p) = record { state = (step scene.state p End).state; view = scene.view }

-- pass p ends its frame, if it has one: the text is put, and the line that tells of it is written
abbrev pub end_actions : Terrain → List ℕ → ℕ → ℕ → Option OpenFrame → List Action
end_actions terrain name k p None = Write (log_line p End NoFrame) ∷ []
end_actions terrain name k p (Some frame) =
    Put (frame_name name frame.number) (whole_text_of frame (mesh_of terrain k frame))
    ∷ Write (mesh_line p frame.number (mesh_of terrain k frame)) ∷ []

-- the same of the parts that the view keeps
abbrev pub end_seen_actions : Terrain → List ℕ → ℕ → List HalfSpace → ℕ → Option OpenFrame → List Action
end_seen_actions terrain name k view p None = Write (unseen_line p) ∷ []
end_seen_actions terrain name k view p (Some frame) =
    Put (frame_name name frame.number) (seen_text_of frame view (mesh_of terrain k frame))
    ∷ Write (seen_line p frame.number view (mesh_of terrain k frame)) ∷ []

-- what an event of a pass does
abbrev pub event_actions : Terrain → List ℕ → State → ℕ → Event → List Action
event_actions terrain name st p End = end_actions terrain name st.k p (frame_of (pass_at st p))
event_actions terrain name st p event = Write (log_line p event (step st p event).answer) ∷ []

-- what a step does
abbrev pub step_actions : Terrain → List ℕ → Scene → Step → List Action
step_actions terrain name scene (Book p event) = event_actions terrain name scene.state p event
step_actions terrain name scene (See view) = Write (view_line view) ∷ []
step_actions terrain name scene (EndSeen p) =
    end_seen_actions terrain name scene.state.k scene.view p (frame_of (pass_at scene.state p))

-- what steps do, one after another
abbrev pub steps_actions : Terrain → List ℕ → Scene → List Step → List Action
steps_actions terrain name scene [] = []
steps_actions terrain name scene (step ∷ steps) =
    step_actions terrain name scene step ++ steps_actions terrain name (after_step scene step) steps

-- what a play does, for K, a number of levels and its steps
unfoldable pub play_actions : Terrain → ℕ → ℕ → List Step → List ℕ → List Action
play_actions terrain k levels steps name = steps_actions terrain name (start_scene k levels) steps
