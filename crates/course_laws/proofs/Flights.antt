-- The events of a legal history, as steps of a play whose numbers are in range.
use Rattle.std.proofs.Common.{◌≡◌, ℕ, ◌<◌, List, [], ◌∷◌, length, map, subst, ◌∙◌}
use Rattle.std.specs.List.{All}
use Rattle.std.proofs.lemmas.List.Elements.{All-nil, All-cons, All-head, All-tail}
use Rattle.plan_model.specs.States.{State}
use Rattle.plan_model.specs.Steps.{step as event_step}
use Rattle.plan_model.specs.Histories.{IsAllowed, IsLegalFrom, asked_by}
use Rattle.plan_model.specs.Sound.{IsTaken}
use Rattle.plan_model.specs.declared.events.Entry.{Entry}
use Rattle.plan_model.specs.declared.events.Event.{Event}
use Rattle.plan_model.specs.declared.events.Event.TheVariants.{Move, Claim, Finish, Publish, Begin, End}
use Rattle.plan_model.specs.declared.events.FlyLine.{FlyLine}
use Rattle.plan_model.specs.declared.events.FlyLine.TheVariants.{Move as FlyMove, Frame as FlyFrame, Settle}
use Rattle.plan_sound.specs.Laws.{StepsKeepSizes}
use Rattle.plan_flights.specs.Flights.{IsFlyable}
use Rattle.clip_script.specs.Ranges.{IsFlown, IsStep}
use Rattle.clip_flights.specs.Flights.{played}

-- an event that is allowed can be taken
taken : (levels : ℕ) (st : State) (p : ℕ) (event : Event) → length st.levels ≡ levels → IsAllowed st p event → IsTaken levels event
taken levels st p (Move x y a) many allowed = allowed
taken levels st p Claim many allowed = tt
taken levels st p Finish many allowed = tt
taken levels st p (Publish level) many allowed = subst (λ (m : ℕ). level < m) many allowed
taken levels st p Begin many allowed = tt
taken levels st p End many allowed = tt

pub legal_steps : StepsKeepSizes → (levels : ℕ) (entries : List Entry) (st : State) → length st.levels ≡ levels → length st.passes ≡ 16 →
    IsLegalFrom st entries → All (IsStep levels) (map played (map asked_by entries))
legal_steps sizes levels [] st many passes legal = All-nil (IsStep levels)
legal_steps sizes levels (e ∷ rest) st many passes legal =
    All-cons (IsStep levels) (played (asked_by e)) (map played (map asked_by rest))
    (record { pass = subst (λ (m : ℕ). e.pass < m) passes legal.0; event = taken levels st e.pass e.event many legal.1 })
    (legal_steps sizes levels rest (event_step st e.pass e.event).state ((sizes st e.pass e.event).levels ∙ many) ((sizes st e.pass e.event).passes ∙ passes) legal.3)

-- ---- lines that are in range can be flown
one_flyable : (l : FlyLine) → IsFlown l → IsFlyable l
one_flyable (FlyMove x y a) h = h
one_flyable FlyFrame h = tt
one_flyable Settle h = tt

pub flyable : (lines : List FlyLine) → All IsFlown lines → All IsFlyable lines
flyable [] h = All-nil IsFlyable
flyable (l ∷ lines) h = All-cons IsFlyable l lines (one_flyable l (All-head IsFlown l lines h)) (flyable lines (All-tail IsFlown l lines h))
