-- The frames of a book after any events.
use Rattle.std.proofs.Common.{◌≡◌, ℕ, ◌+◌, List, [], ◌∷◌, length, refl, sym, ◌∙◌, subst}
use Rattle.std.specs.List.{All}
use Rattle.std.proofs.lemmas.List.{length-replicate}
use Rattle.std.proofs.lemmas.List.Elements.{All-head, All-tail}
use Rattle.plan_model.specs.States.{State, empty_level, start_state}
use Rattle.plan_model.specs.Steps.{step}
use Rattle.plan_model.specs.Histories.{state_after, state_of_history}
use Rattle.plan_model.specs.Sound.{IsTaken}
use Rattle.plan_model.specs.declared.events.Entry.{Entry}
use Rattle.plan_sound.specs.Laws.{SoundStarts}
use Rattle.plan_holds.specs.Laws.{KeptAtTheStart}
use Rattle.watertight_laws.specs.Laws.{FramesAreWatertight}
use Rattle.run_laws.specs.Frames.{IsTakenEntry, OpenFramesAreWatertight}
use Rattle.run_laws.proofs.Drawn.{EventLaws, IsDrawable, IsOnCourse, next_on_course, start_on_course}

-- a state of K that is on course after some events
record IsReached (k : ℕ) (st : State) : Type 0 where
  many : ℕ
  on_course : IsOnCourse many st
  size : st.k ≡ k

module _ (laws : EventLaws) where
  after_all : (k levels n : ℕ) (st : State) (entries : List Entry) → IsOnCourse n st → st.k ≡ k → length st.levels ≡ levels → All (IsTakenEntry levels) entries →
      IsReached k (state_after st entries)
  unfolding state_after
  after_all k levels n st [] h size many taken = record { many = n; on_course = h; size = size }
  after_all k levels n st (e ∷ rest) h size many taken =
      let first : IsTaken levels e.event = All-head (IsTakenEntry levels) e rest taken in
      after_all k levels (n + 1) (step st e.pass e.event).state rest
      (next_on_course laws n st h e.pass e.event (subst (λ (m : ℕ). IsTaken m e.event) (sym many) first))
      ((laws.sizes st e.pass e.event).k ∙ size) ((laws.sizes st e.pass e.event).levels ∙ many) (All-tail (IsTakenEntry levels) e rest taken)

  pub frames_watertight : FramesAreWatertight → SoundStarts → KeptAtTheStart → OpenFramesAreWatertight
  unfolding start_state
  frames_watertight watertight starts kept terrain k levels entries p frame size many taken has =
      let reached : IsReached k (state_of_history k levels entries) =
      after_all k levels 0 (start_state k levels) entries (start_on_course starts kept k levels size many) refl (length-replicate levels empty_level) taken in
      let can : IsDrawable (state_of_history k levels entries).k frame = reached.on_course.frames p frame has in
      watertight terrain k frame.actives size (subst (λ (m : ℕ). IsDrawable m frame) reached.size can).drawn
