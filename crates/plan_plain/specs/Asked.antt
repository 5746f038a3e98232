-- Events of passes as the definitions have them.
use Rattle.std.specs.Prelude.{ℕ, ◌<◌, List, map}
use Rattle.plan_model.specs.Histories.{Asked}
use Rattle.plan_model.specs.Sound.{IsTaken}
use Rattle.plan_plain.specs.declared.runs.PlainAsked.{PlainAsked}

-- the definition's event of a pass
abbrev pub asked_as : PlainAsked → Asked
asked_as asked = record { pass = asked.pass; event = asked.event }

abbrev pub asked_of : List PlainAsked → List Asked
asked_of events = map asked_as events

-- the pass is there, and a state with this many levels can take the event
pub record IsAsked (levels : ℕ) (asked : PlainAsked) : Type 0 where
  pub pass : asked.pass < 16
  pub event : IsTaken levels asked.event
