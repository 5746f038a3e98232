-- Runs of events and the histories that they leave, as statements: each is the contract of a law of this crate.
use Rattle.std.specs.Prelude.{◌≡◌, ◌<◌, List, [], ◌∷◌, map, length}
use Rattle.plan_model.specs.States.{State}
use Rattle.plan_model.specs.Steps.{step}
use Rattle.plan_model.specs.Histories.{Asked, asked_by, run, IsAllowed, IsLegalFrom, state_after}
use Rattle.plan_model.specs.declared.events.Entry.{Entry}

-- from a state, each event's pass is there and the event is allowed in its turn
abbrev pub AllAllowedFrom : State → List Asked → Type 0
AllAllowedFrom st [] = Unit {0}
AllAllowedFrom st (a ∷ rest) =
    (a.pass < length st.passes) × IsAllowed st a.pass a.event × AllAllowedFrom (step st a.pass a.event).state rest

-- a run whose every event is allowed leaves a legal history
abbrev pub RunsAreLegal : Type 0
RunsAreLegal = (st : State) (events : List Asked) → AllAllowedFrom st events → IsLegalFrom st (run st events).history

-- a run leaves the state that its history leaves
abbrev pub RunsLeaveStates : Type 0
RunsLeaveStates = (st : State) (events : List Asked) → (run st events).state ≡ state_after st (run st events).history

-- a run's history has the run's events
abbrev pub RunsHaveTheirEvents : Type 0
RunsHaveTheirEvents = (st : State) (events : List Asked) → map asked_by (run st events).history ≡ events

-- a legal history is what the run of its events leaves
abbrev pub LegalHistoriesAreRuns : Type 0
LegalHistoriesAreRuns =
    (st : State) (entries : List Entry) → IsLegalFrom st entries → (run st (map asked_by entries)).history ≡ entries
