-- Where a history stops being legal.
use Rattle.std.specs.Prelude.{◌≡◌, ℕ, ◌+◌, ◌<◌, List, length, take}
use Rattle.plan_model.specs.States.{State}
use Rattle.plan_model.specs.Steps.{step}
use Rattle.plan_model.specs.Histories.{IsAllowed, IsLegalHistory}
use Rattle.plan_model.specs.Sound.{IsTaken}
use Rattle.plan_model.specs.declared.events.Entry.{Entry}

-- an entry can follow a state: its pass is there, its event is allowed, and its answer is the one that the event has
pub record IsNext (st : State) (entry : Entry) : Type 0 where
  pub pass : entry.pass < length st.passes
  pub allowed : IsAllowed st entry.pass entry.event
  pub answer : (step st entry.pass entry.event).answer ≡ entry.answer

-- a history stops being legal at an entry: it is legal up to this, and not with it
pub record StopsAt (k levels : ℕ) (entries : List Entry) (i : ℕ) : Type 0 where
  pub there : i < length entries
  pub before : IsLegalHistory k levels (take i entries)
  pub here : ¬ IsLegalHistory k levels (take (i + 1) entries)

-- an entry's pass is there, and a state with this many levels can take its event
pub record IsPlayed (levels : ℕ) (entry : Entry) : Type 0 where
  pub pass : entry.pass < 16
  pub event : IsTaken levels entry.event
