-- The lines of a flight, as parts of it.
use Rattle.std.specs.Prelude.{◌≡◌, ℕ, ◌+◌, ◌≤◌, List, fold}
use Rattle.plan_model.specs.Rounds.{fly_line}
use Rattle.plan_model.specs.declared.events.FlyLine.{FlyLine}
use Rattle.clip_book.specs.Books.{BookView}
use Rattle.clip_rounds.specs.Parts.{Part}

-- the lines of a flight, one after another
abbrev pub lines_of : ℕ → List FlyLine → Part
lines_of workers lines = λ run. fold (fly_line workers) run lines

-- a line was done: the terrain stays, and there is at most one more move and one more frame
pub record GoesOn (old new : BookView) : Type 0 where
  pub land : new.land ≡ old.land
  pub moves : new.plan.moves ≤ old.plan.moves + 1
  pub begun : new.plan.state.begun ≤ old.plan.state.begun + 1
