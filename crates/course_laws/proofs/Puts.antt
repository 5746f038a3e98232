-- What a course puts: the texts of frames that can be drawn.
use Rattle.std.proofs.Common.{◌≡◌, ℕ, ◌+◌, List, [], ◌∷◌, length, Option, Some, None, refl, sym, ◌∙◌, subst, inl, inr, ◌⊎◌}
use Rattle.std.specs.List.{All}
use Rattle.std.proofs.lemmas.List.Elements.{All-nil, All-cons, All-append, All-head, All-tail}
use Rattle.terrain_model.specs.Terrain.{Terrain, IsTerrain}
use Rattle.plan_model.specs.Limits.{IsSize}
use Rattle.plan_model.specs.States.{State, OpenFrame, pass_at, frame_of}
use Rattle.plan_model.specs.Steps.{step as event_step}
use Rattle.plan_model.specs.declared.events.Event.{Event}
use Rattle.plan_model.specs.declared.events.Event.TheVariants.{Move, Claim, Finish, Publish, Begin, End}
use Rattle.plan_model.specs.declared.events.Answer.TheVariants.{NoFrame}
use Rattle.plan_model.specs.Sound.{IsTaken}
use Rattle.mesh_model.specs.declared.shapes.HalfSpace.{HalfSpace}
use Rattle.watertight_laws.specs.Laws.{FramesAreWatertight}
use Rattle.frame_verdicts.specs.Laws.{FrameTextsAreJudgedWatertight}
use Rattle.clip_script.specs.Ranges.{IsStep}
use Rattle.clip_script.specs.declared.step.Step.{Step}
use Rattle.clip_script.specs.declared.step.Step.TheVariants.{Book, See, EndSeen}
use Rattle.clip_script.specs.Texts.{log_line}
use Rattle.run_actions.specs.Actions.{Put, Write}
use Rattle.clip_desk.specs.Frames.{frame_name, mesh_of, seen_text_of, whole_text_of}
use Rattle.clip_desk.specs.Lines.{mesh_line, seen_line, unseen_line, view_line}
use Rattle.clip_desk.specs.Plays.{Scene, after_step, end_actions, end_seen_actions, event_actions, step_actions, steps_actions}
use Rattle.course_laws.specs.Laws.{IsWholeFrame, IsSeenFrame, PutsWatertight}
use Rattle.run_laws.proofs.Drawn.{EventLaws, IsDrawable, IsOnCourse, next_on_course, still_on_course}

-- a scene of K and so many levels, after at most n steps
pub record IsScene (k levels n : ℕ) (scene : Scene) : Type 0 where
  pub on_course : IsOnCourse n scene.state
  pub size : scene.state.k ≡ k
  pub many : length scene.state.levels ≡ levels

-- ---- a line alone, and a file with its line
pub line : (terrain : Terrain) (k : ℕ) (text : List ℕ) → All (PutsWatertight terrain k) (Write text ∷ [])
line terrain k text = All-cons (PutsWatertight terrain k) (Write text) [] tt (All-nil (PutsWatertight terrain k))

pub file : (terrain : Terrain) (k : ℕ) (name text told : List ℕ) → IsWholeFrame terrain k text ⊎ IsSeenFrame terrain k text →
    All (PutsWatertight terrain k) (Put name text ∷ Write told ∷ [])
file terrain k name text told good = All-cons (PutsWatertight terrain k) (Put name text) (Write told ∷ []) good (line terrain k told)

-- ---- a frame
module _ (watertight : FramesAreWatertight) (judged : FrameTextsAreJudgedWatertight) (terrain : Terrain) (is : IsTerrain terrain) where
  pub whole_frame : (k : ℕ) (frame : OpenFrame) → IsSize k → IsDrawable k frame →
      IsWholeFrame terrain k (whole_text_of frame (mesh_of terrain k frame))
  whole_frame k frame size can = record {
    frame = frame;
    of_frame = refl;
    watertight = watertight terrain k frame.actives size can.drawn;
    judged = λ small. judged terrain k frame.number frame.x frame.y frame.actives is size small can.column can.row can.drawn;
  }

  seen_frame : (k : ℕ) (view : List HalfSpace) (frame : OpenFrame) → IsSize k → IsDrawable k frame →
      IsSeenFrame terrain k (seen_text_of frame view (mesh_of terrain k frame))
  seen_frame k view frame size can = record {
    frame = frame;
    view = view;
    of_parts = refl;
    watertight = watertight terrain k frame.actives size can.drawn;
  }

  -- the frame of a pass that ends it
  module _ (name : List ℕ) (k p : ℕ) (size : IsSize k) where
    end_puts : (had : Option OpenFrame) → ((frame : OpenFrame) → had ≡ Some frame → IsDrawable k frame) → All (PutsWatertight terrain k) (end_actions terrain name k p had)
    end_puts None each = line terrain k (log_line p End NoFrame)
    end_puts (Some frame) each =
        file terrain k (frame_name name frame.number) (whole_text_of frame (mesh_of terrain k frame)) (mesh_line p frame.number (mesh_of terrain k frame))
        (inl (whole_frame k frame size (each frame refl)))

    end_seen_puts : (view : List HalfSpace) (had : Option OpenFrame) → ((frame : OpenFrame) → had ≡ Some frame → IsDrawable k frame) → All (PutsWatertight terrain k) (end_seen_actions terrain name k view p had)
    end_seen_puts view None each = line terrain k (unseen_line p)
    end_seen_puts view (Some frame) each =
        file terrain k (frame_name name frame.number) (seen_text_of frame view (mesh_of terrain k frame)) (seen_line p frame.number view (mesh_of terrain k frame))
        (inr (seen_frame k view frame size (each frame refl)))

  -- ---- a step
  module _ (n : ℕ) (st : State) (h : IsOnCourse n st) where
    event_puts : (name : List ℕ) (p : ℕ) (event : Event) → All (PutsWatertight terrain st.k) (event_actions terrain name st p event)
    event_puts name p (Move x y a) = line terrain st.k (log_line p (Move x y a) (event_step st p (Move x y a)).answer)
    event_puts name p Claim = line terrain st.k (log_line p Claim (event_step st p Claim).answer)
    event_puts name p Finish = line terrain st.k (log_line p Finish (event_step st p Finish).answer)
    event_puts name p (Publish level) = line terrain st.k (log_line p (Publish level) (event_step st p (Publish level)).answer)
    event_puts name p Begin = line terrain st.k (log_line p Begin (event_step st p Begin).answer)
    event_puts name p End = end_puts name st.k p h.sound.size (frame_of (pass_at st p)) (h.frames p)

  step_puts : (name : List ℕ) (n : ℕ) (scene : Scene) → IsOnCourse n scene.state → (step : Step) → All (PutsWatertight terrain scene.state.k) (step_actions terrain name scene step)
  step_puts name n scene h (Book p event) = event_puts n scene.state h name p event
  step_puts name n scene h (See view) = line terrain scene.state.k (view_line view)
  step_puts name n scene h (EndSeen p) =
      end_seen_puts name scene.state.k p h.sound.size scene.view (frame_of (pass_at scene.state p)) (h.frames p)

  -- ---- steps
  module _ (laws : EventLaws) (name : List ℕ) where
    after_event : (k levels n : ℕ) (scene : Scene) (p : ℕ) (event : Event) (view : List HalfSpace) → IsTaken levels event → IsScene k levels n scene →
        IsScene k levels (n + 1) (record { state = (event_step scene.state p event).state; view = view })
    after_event k levels n scene p event view taken h = record {
      on_course = next_on_course laws n scene.state h.on_course p event (subst (λ (m : ℕ). IsTaken m event) (sym h.many) taken);
      size = (laws.sizes scene.state p event).k ∙ h.size;
      many = (laws.sizes scene.state p event).levels ∙ h.many;
    }

    after : (k levels n : ℕ) (scene : Scene) (step : Step) → IsStep levels step → IsScene k levels n scene → IsScene k levels (n + 1) (after_step scene step)
    after k levels n scene (Book p event) asked h = after_event k levels n scene p event scene.view asked.event h
    after k levels n scene (See view) asked h = record { on_course = still_on_course laws n scene.state h.on_course; size = h.size; many = h.many }
    after k levels n scene (EndSeen p) asked h = after_event k levels n scene p End scene.view tt h

    pub steps_put : (k levels n : ℕ) (scene : Scene) (steps : List Step) → IsScene k levels n scene → All (IsStep levels) steps →
        All (PutsWatertight terrain k) (steps_actions terrain name scene steps)
    steps_put k levels n scene [] h in_range = All-nil (PutsWatertight terrain k)
    steps_put k levels n scene (step ∷ steps) h in_range =
        All-append (PutsWatertight terrain k) (step_actions terrain name scene step) (steps_actions terrain name (after_step scene step) steps)
        (subst (λ (m : ℕ). All (PutsWatertight terrain m) (step_actions terrain name scene step)) h.size (step_puts name n scene h.on_course step))
        (steps_put k levels (n + 1) (after_step scene step) steps (after k levels n scene step (All-head (IsStep levels) step steps in_range) h)
        (All-tail (IsStep levels) step steps in_range))
