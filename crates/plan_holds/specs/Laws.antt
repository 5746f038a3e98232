-- What every book keeps, as statements: each is the contract of a law of this crate.
use Rattle.std.specs.Prelude.{◌≡◌, ℕ, ◌≤◌, List, length}
use Rattle.plan_model.specs.Limits.{IsSize}
use Rattle.plan_model.specs.States.{State, start_state, level_at}
use Rattle.plan_model.specs.Steps.{step}
use Rattle.plan_model.specs.Histories.{state_after, state_of_history}
use Rattle.plan_model.specs.declared.events.Event.{Event}
use Rattle.plan_model.specs.declared.events.Entry.{Entry}
use Rattle.plan_holds.specs.Kept.{IsKept}

-- a book keeps it from the start on
abbrev pub KeptAtTheStart : Type 0
KeptAtTheStart = (k levels : ℕ) → IsSize k → IsKept (start_state k levels)

-- each event keeps it, answered or refused
abbrev pub StepsKeep : Type 0
StepsKeep = (st : State) (p : ℕ) (event : Event) → IsKept st → IsKept (step st p event).state

-- so the state of every history has it, be it legal or not
abbrev pub HistoriesKeep : Type 0
HistoriesKeep = (k levels : ℕ) (entries : List Entry) → IsSize k → IsKept (state_of_history k levels entries)

-- a state that comes after another has its K, as many levels and passes, no lower plan number, and no fewer frames
pub record ComesAfter (before after : State) : Type 0 where
  pub size : after.k ≡ before.k
  pub levels : length after.levels ≡ length before.levels
  pub passes : length after.passes ≡ length before.passes
  pub plans : (level : ℕ) → (level_at before level).plan ≤ (level_at after level).plan
  pub begun : before.begun ≤ after.begun

-- what an event leaves comes after what it found, and so does what a list of entries leaves
abbrev pub StepsGoOn : Type 0
StepsGoOn = (st : State) (p : ℕ) (event : Event) → ComesAfter st (step st p event).state

abbrev pub HistoriesGoOn : Type 0
HistoriesGoOn = (st : State) (entries : List Entry) → ComesAfter st (state_after st entries)
