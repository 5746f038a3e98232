-- Which runs and flights the plain program makes.
use Rattle.std.specs.Prelude.{length}
use Rattle.plan_model.specs.Limits.{IsViewer}
use Rattle.plan_model.specs.Histories.{Run}
use Rattle.plan_model.specs.declared.events.FlyLine.{FlyLine}
use Rattle.plan_model.specs.declared.events.FlyLine.TheVariants.{Move as FlyMove, Frame as FlyFrame, Settle}
use Rattle.plan_model.specs.Sound.{IsSound}

-- a run's plan numbers and frames are no more than its events
abbrev pub IsSoundRun : Run → Type 0
IsSoundRun run = IsSound (length run.history) run.state

-- a line of a flight that can be flown
abbrev pub IsFlown : FlyLine → Type 0
IsFlown (FlyMove x y a) = IsViewer x y a
IsFlown FlyFrame = Unit {0}
IsFlown Settle = Unit {0}
