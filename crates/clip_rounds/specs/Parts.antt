-- Parts of a flight: what each does and leaves, and what is true of a run that flies one.
use Rattle.std.specs.Prelude.{◌≡◌, ℕ, List, [], map, OnOk, Result}
use Rattle.outer_shelf.specs.Outside.{ShelfTold, SinkTold}
use Rattle.terrain_model.specs.Terrain.{Terrain}
use Rattle.plan_model.specs.States.{State}
use Rattle.plan_model.specs.Histories.{Run, run_from, then_step}
use Rattle.plan_model.specs.declared.events.Entry.{Entry}
use Rattle.plan_model.specs.declared.events.Event.{Event}
use Rattle.clip_script.specs.declared.step.Step.{Step}
use Rattle.clip_script.specs.declared.step.Step.TheVariants.{Book}
use Rattle.run_actions.specs.Actions.{Action}
use Rattle.run_actions.specs.Runs.{HadReason, Leaving, Ran}
use Rattle.run_actions.specs.declared.halt.Halt.{Halt}
use Rattle.clip_desk.specs.Plays.{Scene, steps_actions}
use Rattle.clip_rounds.specs.Tallies.{with_history}
use Rattle.clip_rounds.specs.declared.flight.Flight.{Flight}
use Rattle.clip_rounds.specs.declared.tally.Tally.{Tally}

-- a part of a flight: what it makes of the run before it
abbrev pub Part : Type 0
Part = Run → Run

-- one event of a pass
abbrev pub one : ℕ → Event → Part
one p event = λ run. then_step run p event

-- the step of a play that an entry of a history is
abbrev pub step_of : Entry → Step
step_of entry = Book entry.pass entry.event

-- the scene of a state without a view
abbrev pub scene_at : State → Scene
scene_at st = record { state = st; view = [] }

-- what a part does from a state on: what a play of its events does
abbrev pub part_actions : Terrain → List ℕ → State → Part → List Action
part_actions terrain name st part = steps_actions terrain name (scene_at st) (map step_of (part (run_from st)).history)

-- where a flight is between two events: the state of the plan, and the numbers so far
pub record Place : Type 0 where
  pub state : State
  pub tally : Tally

abbrev pub place_of : Flight → Place
place_of flight = record { state = flight.book.plan.state; tally = flight.tally }

-- where a part leads
abbrev pub after_part : Terrain → Part → Place → Place
after_part terrain part place = record {
  state = (part (run_from place.state)).state;
  tally = with_history terrain place.state (part (run_from place.state)).history place.tally;
}

-- a part was flown, or halted: what was done of its actions, why it halted, and where it led
pub record Flew {A : Type 0} (leaves : Leaving) (terrain : Terrain) (name : List ℕ) (part : Part) (result : Result A Halt)
    (old new : Place) (shelf shelf' : ShelfTold) (sink sink' : SinkTold) : Type 0 where
  pub ran : Ran leaves 0 (part_actions terrain name old.state part) result shelf shelf' sink sink'
  pub reason : HadReason result shelf shelf' sink sink'
  pub leads : OnOk result (new ≡ after_part terrain part old)
