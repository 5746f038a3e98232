-- What puts alone did.
use Rattle.std.specs.Prelude.{◌≤◌, List, Result}
use Rattle.outer_shelf.specs.Counts.{Rose}
use Rattle.outer_shelf.specs.Outside.{ShelfTold, SinkTold}
use Rattle.run_actions.specs.Actions.{Action}
use Rattle.run_actions.specs.Runs.{Leaving, OnHalt, Ran}
use Rattle.run_actions.specs.declared.halt.Halt.{Halt}

-- what some puts did of these actions, whatever sink there is, and why they halted: no sink was called
pub record HasPut (leaves : Leaving) (actions : List Action) (result : Result (Unit {0}) Halt)
    (shelf shelf' : ShelfTold) : Type 0 where
  pub ran : (sink : SinkTold) → Ran leaves 0 actions result shelf shelf' sink sink
  pub reason : OnHalt result (Rose shelf.faults shelf'.faults) ⊥
  pub faults_stay : shelf.faults ≤ shelf'.faults
