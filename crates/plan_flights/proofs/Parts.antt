-- What passes have after a step, and that a sound state stays sound.
use Rattle.std.proofs.Common.{◌≡◌, ℕ, ◌+◌, ◌<◌, ◌==◌, true, false, List, length, get_or, Option, Some, None, refl, ap, sym, ◌∙◌, inl, inr}
use Rattle.std.proofs.lemmas.Bool.{cond_both, cases_lt, true≢false}
use Rattle.std.proofs.lemmas.List.{get_or-set_same, get_or_past}
use Rattle.std.specs.Option.{is_some}
use Rattle.plan_model.specs.Strips.{first_of}
use Rattle.plan_model.specs.States.{State, Pass, OpenFrame, pass_at, level_at, job_of, frame_of, has_work}
use Rattle.plan_model.specs.Claims.{Offer, offers}
use Rattle.plan_model.specs.Steps.{Step, claimed, claim_step, finished_job, given_back, finish_step, ended, end_step, step}
use Rattle.plan_model.specs.Sound.{IsSound, IsTaken}
use Rattle.plan_model.specs.declared.events.JobNote.{JobNote}
use Rattle.plan_model.specs.declared.events.Event.{Event}
use Rattle.plan_model.specs.declared.events.Work.TheVariants.{Free, Fills, Draws}
use Rattle.plan_flights.specs.Below.{LawsBelow}

-- ---- soundness, for some bound
pub record IsSomeSound (st : State) : Type 0 where
  pub bound : ℕ
  pub sound : IsSound bound st

pub sound_after : LawsBelow → (st : State) (p : ℕ) (event : Event) → IsTaken (length st.levels) event → IsSomeSound st → IsSomeSound (step st p event).state
sound_after known st p event taken s = record { bound = s.bound + 1; sound = known.sound_steps s.bound st p event taken s.sound }

-- ---- a pass that has something is there
pub there_with_job : (ps : List Pass) (p : ℕ) → is_some (job_of (get_or ps p Free)) ≡ true → p < length ps
there_with_job ps p e =
    elim (cases_lt p (length ps)) [
      | inl h ↦ h
      | inr h ↦ absurd (true≢false (sym e ∙ ap (λ (pass : Pass). is_some (job_of pass)) (get_or_past ps p Free h)))
    ]

pub there_with_frame : (ps : List Pass) (p : ℕ) → is_some (frame_of (get_or ps p Free)) ≡ true → p < length ps
there_with_frame ps p e =
    elim (cases_lt p (length ps)) [
      | inl h ↦ h
      | inr h ↦ absurd (true≢false (sym e ∙ ap (λ (pass : Pass). is_some (frame_of pass)) (get_or_past ps p Free h)))
    ]

pub free_if : (pass : Pass) → job_of pass ≡ None → frame_of pass ≡ None → pass ≡ Free
free_if Free e f = refl
free_if (Fills job) e f = absurd (cc)
free_if (Draws frame) e f = absurd (cc)

pub none_of : {X : Type 0} (o : Option X) → is_some o ≡ false → o ≡ None
none_of None e = refl
none_of (Some x) e = absurd (true≢false e)

-- ---- a claim leaves its pass without a frame
claimed_frame : (st : State) (p : ℕ) (offer : Option Offer) → p < length st.passes → frame_of (pass_at st p) ≡ None → frame_of (pass_at (claimed st p offer).state p) ≡ None
claimed_frame st p None h e = e
claimed_frame st p (Some offer) h e = ap frame_of (get_or-set_same st.passes p _ Free h)

pub claim_frame : (st : State) (p : ℕ) → p < length st.passes → frame_of (pass_at st p) ≡ None → frame_of (pass_at (claim_step st p).state p) ≡ None
unfolding claim_step
claim_frame st p h e =
    cond_both (has_work (pass_at st p)) _ _ (λ (next : Step). frame_of (pass_at next.state p) ≡ None) (λ _. e) (λ _. claimed_frame st p (first_of (offers st)) h e)

-- ---- a pass that gives its job back or ends its frame is free
given_back_free : (st : State) (p : ℕ) (job : Option JobNote) → p < length st.passes → is_some job ≡ true → pass_at (given_back st p job).state p ≡ Free
unfolding finished_job
given_back_free st p None h e = absurd (true≢false (sym e))
given_back_free st p (Some job) h e =
    cond_both (job.plan == (level_at st job.level).plan) _ _ (λ (next : Step). pass_at next.state p ≡ Free) (λ _. get_or-set_same st.passes p Free Free h) (λ _. get_or-set_same st.passes p Free Free h)

pub finish_free : (st : State) (p : ℕ) → is_some (job_of (pass_at st p)) ≡ true → pass_at (finish_step st p).state p ≡ Free
unfolding finish_step
finish_free st p e = given_back_free st p (job_of (pass_at st p)) (there_with_job st.passes p e) e

ended_free : (st : State) (p : ℕ) (frame : Option OpenFrame) → p < length st.passes → is_some frame ≡ true → pass_at (ended st p frame).state p ≡ Free
ended_free st p None h e = absurd (true≢false (sym e))
ended_free st p (Some frame) h e = get_or-set_same st.passes p Free Free h

pub end_free : (st : State) (p : ℕ) → is_some (frame_of (pass_at st p)) ≡ true → pass_at (end_step st p).state p ≡ Free
unfolding end_step
end_free st p e = ended_free st p (frame_of (pass_at st p)) (there_with_frame st.passes p e) e
