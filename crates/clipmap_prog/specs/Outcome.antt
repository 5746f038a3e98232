-- What a command comes to: a status, how many files are fetched, and the puts and writes in their order.
use Rattle.std.specs.Prelude.{ℕ, List, [], ◌∷◌, Result, Ok, Err}
use Rattle.run_actions.specs.Actions.{Action, Write}
use Rattle.clipmap_prog.specs.Faults.{Cause, cause_line}
use Rattle.clipmap_prog.specs.Reading.{Reading}

pub record Outcome : Type 0 where
  pub status : ℕ
  pub fetches : ℕ
  pub actions : List Action

-- a refusal writes the line of its fault and does nothing else
abbrev pub refused : ℕ → ℕ → Cause → Outcome
refused status fetches cause = record { status = status; fetches = fetches; actions = Write (cause_line cause) ∷ [] }

-- what is done where a reading ended so: the actions of what it found with status 0, or its refusal with status 2
abbrev pub concluded_by : {A : Type 0} → (A → List Action) → ℕ → Result A Cause → Outcome
concluded_by actions fetches (Err cause) = refused 2 fetches cause
concluded_by actions fetches (Ok found) = record { status = 0; fetches = fetches; actions = actions found }

-- the outcome of a command that reads and then does what it has found
abbrev pub concluded : {A : Type 0} → (A → List Action) → Reading A → Outcome
concluded actions reading = concluded_by actions reading.fetches reading.found
