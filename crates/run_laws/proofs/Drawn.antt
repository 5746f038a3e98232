-- Each open frame of a state that a course reaches has active regions that can be drawn, and is seen from within the limits.
use Rattle.std.proofs.Common.{◌≡◌, ℕ, ◌+◌, ◌<◌, List, length, get_or, sym, subst, inl, inr, arith}
use Rattle.std.proofs.lemmas.List.{length-map, get_or-map}
use Rattle.clip_regions.specs.declared.region.Region.{Region}
use Rattle.clip_regions.specs.Regions.{empty_region}
use Rattle.plan_model.specs.Limits.{IsSize, IsLevelCount, IsViewed}
use Rattle.plan_model.specs.Actives.{actives}
use Rattle.plan_model.specs.States.{State, Level, OpenFrame, empty_level, filled_at, filled_regions, finest_at, start_state}
use Rattle.plan_model.specs.Steps.{step, next_frame}
use Rattle.plan_model.specs.Sound.{IsShown, IsSound, IsTaken}
use Rattle.plan_model.specs.declared.events.Event.{Event}
use Rattle.plan_sound.specs.Laws.{SoundStarts, SoundSteps, StepsKeepSizes, WiderBounds}
use Rattle.plan_holds.specs.Kept.{HasFrame, IsKept}
use Rattle.plan_holds.specs.Laws.{KeptAtTheStart, StepsKeep}
use Rattle.plan_holds.specs.Changes.{StepsBeginFrames}
use Rattle.active_region.specs.Active.{AreDrawn, AreFilled}

-- the active regions of filled ones can be drawn
abbrev pub FilledAreDrawn : Type 0
FilledAreDrawn =
    (k finest : ℕ) (filled : List Region) → IsSize k → IsLevelCount (length filled) → AreFilled k filled →
    AreDrawn k (actives k finest filled)

-- a frame can be drawn, and its viewer is within the limits
pub record IsDrawable (k : ℕ) (frame : OpenFrame) : Type 0 where
  pub column : IsViewed frame.x
  pub row : IsViewed frame.y
  pub drawn : AreDrawn k frame.actives

-- after at most n events: the state is sound and kept, and each of its open frames can be drawn
pub record IsOnCourse (n : ℕ) (st : State) : Type 0 where
  pub sound : IsSound n st
  pub kept : IsKept st
  pub frames : (p : ℕ) (frame : OpenFrame) → HasFrame st p frame → IsDrawable st.k frame

-- ---- the frame that would be begun
region_at : (st : State) (i : ℕ) → i < length st.levels → get_or (filled_regions st) i empty_region ≡ filled_at st i
region_at st i inside = get_or-map (λ (level : Level). level.filled) st.levels i empty_level empty_region inside

module _ (drawn : FilledAreDrawn) (n : ℕ) (st : State) (sound : IsSound n st) where
  many : length (filled_regions st) ≡ length st.levels
  many = length-map st.levels (λ (level : Level). level.filled)

  filled : AreFilled st.k (filled_regions st)
  filled level listed =
      let there : level < length st.levels = subst (λ (m : ℕ). level < m) many listed in
      inr (subst (IsShown st.k level) (sym (region_at st level there)) (record { x = st.x; y = st.y; column = sound.viewer.column; row = sound.viewer.row; part = (sound.levels level there).filled }))

  pub next_drawable : IsDrawable st.k (next_frame st)
  next_drawable = record {
    column = sound.viewer.column;
    row = sound.viewer.row;
    drawn = drawn st.k (finest_at st) (filled_regions st) sound.size (subst IsLevelCount (sym many) sound.many) filled;
  }

-- ---- from event to event
-- the laws of events that are cited
pub record EventLaws : Type 0 where
  pub drawn : FilledAreDrawn
  pub steps : SoundSteps
  pub sizes : StepsKeepSizes
  pub wider : WiderBounds
  pub keep : StepsKeep
  pub begin : StepsBeginFrames

module _ (laws : EventLaws) (n : ℕ) (st : State) (h : IsOnCourse n st) where
  frame_after : (p : ℕ) (event : Event) (q : ℕ) (frame : OpenFrame) → HasFrame (step st p event).state q frame → IsDrawable st.k frame
  frame_after p event q frame has =
      elim (laws.begin st p event q frame has) [
        | inl before ↦ h.frames q frame before
        | inr begun ↦ subst (IsDrawable st.k) (sym begun.next) (next_drawable laws.drawn n st h.sound)
      ]

  pub next_on_course : (p : ℕ) (event : Event) → IsTaken (length st.levels) event → IsOnCourse (n + 1) (step st p event).state
  next_on_course p event taken = record {
    sound = laws.steps n st p event taken h.sound;
    kept = laws.keep st p event h.kept;
    frames = λ q frame has. subst (λ (k : ℕ). IsDrawable k frame) (sym (laws.sizes st p event).k) (frame_after p event q frame has);
  }

  -- nothing happens
  pub still_on_course : IsOnCourse (n + 1) st
  still_on_course = record {
    sound = laws.wider n (n + 1) st (omega arith) h.sound;
    kept = h.kept;
    frames = h.frames;
  }

-- the state at the start has no frame
pub start_on_course : SoundStarts → KeptAtTheStart → (k levels : ℕ) → IsSize k → IsLevelCount levels → IsOnCourse 0 (start_state k levels)
unfolding start_state
start_on_course starts kept k levels size many =
    let keeps : IsKept (start_state k levels) = kept k levels size in
    record {
      sound = starts k levels size many;
      kept = keeps;
      frames = λ p frame has. let below : frame.number < 0 = keeps.number p frame has in absurd (omega (arith, below));
    }
