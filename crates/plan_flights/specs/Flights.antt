-- What is true of flights, as statements: each is the contract of a law of this crate.
use Rattle.std.specs.Prelude.{◌≡◌, ℕ, ◌≤◌, false, IsTrue, List, All}
use Rattle.plan_model.specs.Limits.{IsSize, IsLevelCount, IsViewer}
use Rattle.plan_model.specs.States.{State, start_state, pass_at}
use Rattle.plan_model.specs.Sound.{IsSound}
use Rattle.plan_model.specs.Histories.{Run, run, IsLegalHistory}
use Rattle.plan_model.specs.Rounds.{is_ripe, is_settled, settle, fly_line, flight, fly_events}
use Rattle.plan_model.specs.declared.events.FlyLine.{FlyLine}
use Rattle.plan_model.specs.declared.events.FlyLine.TheVariants.{Move as FlyMove, Frame as FlyFrame, Settle}
use Rattle.plan_model.specs.declared.events.Work.TheVariants.{Free}

-- a line of a script keeps the viewer within the limits
abbrev pub IsFlyable : FlyLine → Type 0
IsFlyable (FlyMove x y a) = IsViewer x y a
IsFlyable FlyFrame = Unit {0}
IsFlyable Settle = Unit {0}

-- what a flight is made of is within the limits: the workers have the passes below that of the frames
pub record IsFlight (k levels workers : ℕ) (script : List FlyLine) : Type 0 where
  pub size : IsSize k
  pub many : IsLevelCount levels
  pub few : workers ≤ 15
  pub lines : All IsFlyable script

-- a flight is the run of its events
abbrev pub FlightsAreRuns : Type 0
FlightsAreRuns =
    (k levels workers : ℕ) (script : List FlyLine) →
    run (start_state k levels) (fly_events k levels workers script) ≡ flight k levels workers script

-- that run is legal
abbrev pub FlightsAreLegal : Type 0
FlightsAreLegal =
    (k levels workers : ℕ) (script : List FlyLine) → IsFlight k levels workers script →
    IsLegalHistory k levels (flight k levels workers script).history

-- a state is at rest: it is sound, each pass has nothing, and no level's strip waits to be published
pub record IsAtRest (st : State) : Type 0 where
  pub bound : ℕ
  pub sound : IsSound bound st
  pub free : (p : ℕ) → pass_at st p ≡ Free
  pub published : (level : ℕ) → is_ripe st level ≡ false

-- every line of a flight leaves a state at rest at rest
abbrev pub LinesKeepRest : Type 0
LinesKeepRest =
    (workers : ℕ) (before : Run) (line : FlyLine) → workers ≤ 15 → IsFlyable line → IsAtRest before.state →
    IsAtRest (fly_line workers before line).state

-- a flight ends at rest
abbrev pub FlightsEndAtRest : Type 0
FlightsEndAtRest =
    (k levels workers : ℕ) (script : List FlyLine) → IsFlight k levels workers script →
    IsAtRest (flight k levels workers script).state

-- with a worker, a settle from a state at rest ends settled, in as many rounds as it finds cells to fill, or fewer
abbrev pub SettlesEnd : Type 0
SettlesEnd =
    (workers : ℕ) (before : Run) → 1 ≤ workers → workers ≤ 15 → IsAtRest before.state →
    IsTrue (is_settled (settle workers before).state)
