-- What lasts over a step, which leaves the state as it was where memory runs out.
use Rattle.std.proofs.Common.{◌≡◌, ℕ, ◌+◌, length, Result, Ok, Err, OnOk, OnErr, ap, ◌∙◌, subst, sym, arith}
use Rattle.plan_model.specs.States.{State}
use Rattle.plan_model.specs.Steps.{step}
use Rattle.plan_model.specs.Sound.{IsSound, IsTaken}
use Rattle.plan_model.specs.declared.events.Event.{Event}
use Rattle.plan_sound.specs.Laws.{SoundSteps, WiderBounds, StepsKeepSizes}

pub sound_after : {T E : Type 0} (r : Result T E) → SoundSteps → WiderBounds → (st new : State) (p : ℕ) (event : Event) → IsTaken (length st.levels) event → OnOk r (new ≡ (step st p event).state) → OnErr r (new ≡ st) → (n : ℕ) → IsSound n st → IsSound (n + 1) new
sound_after (Ok x) steps wider st new p event taken done kept n h = subst (IsSound (n + 1)) (sym done) (steps n st p event taken h)
sound_after (Err e) steps wider st new p event taken done kept n h =
    subst (IsSound (n + 1)) (sym kept) (wider n (n + 1) st (omega arith) h)

pub k_after : {T E : Type 0} (r : Result T E) → StepsKeepSizes → (st new : State) (p : ℕ) (event : Event) → OnOk r (new ≡ (step st p event).state) → OnErr r (new ≡ st) → new.k ≡ st.k
k_after (Ok x) sizes st new p event done kept = ap (λ (s : State). s.k) done ∙ (sizes st p event).k
k_after (Err e) sizes st new p event done kept = ap (λ (s : State). s.k) kept

pub levels_after : {T E : Type 0} (r : Result T E) → StepsKeepSizes → (st new : State) (p : ℕ) (event : Event) → OnOk r (new ≡ (step st p event).state) → OnErr r (new ≡ st) → length new.levels ≡ length st.levels
levels_after (Ok x) sizes st new p event done kept = ap (λ (s : State). length s.levels) done ∙ (sizes st p event).levels
levels_after (Err e) sizes st new p event done kept = ap (λ (s : State). length s.levels) kept
