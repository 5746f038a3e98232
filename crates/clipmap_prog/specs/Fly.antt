-- The command `fly`.
use Rattle.std.specs.Prelude.{ℕ, List, Result}
use Rattle.outer_shelf.specs.Outside.{Files}
use Rattle.terrain_store.specs.Stores.{land_of}
use Rattle.clip_script.specs.Scripts.{Fly, flight_of, fly_view as script_view}
use Rattle.clip_flights.specs.Flights.{fly_actions}
use Rattle.clipmap_words.specs.Fly.{FlyView}
use Rattle.run_actions.specs.Actions.{Action}
use Rattle.clipmap_prog.specs.Faults.{Cause}
use Rattle.clipmap_prog.specs.Outcome.{Outcome, concluded}
use Rattle.clipmap_prog.specs.Reading.{Reading}
use Rattle.clipmap_prog.specs.Scripts.{Stage, scripted, stage_reading}
use Rattle.clipmap_prog.specs.Stores.{Verdict}
use Rattle.clipmap_prog.specs.declared.fly.Staged.{Staged}

-- how many levels a flight has
abbrev pub levels_of : Fly → ℕ
levels_of script = script.levels

-- the script of a file's bytes, or why they are none
abbrev pub read_fly : List ℕ → Result Fly Cause
read_fly bytes = scripted (flight_of bytes)

-- what a `fly` comes to
abbrev pub fly_reading : Verdict → FlyView → Files → Reading (Stage Fly)
fly_reading verdict fly files = stage_reading read_fly levels_of verdict fly.script fly.inputs files

-- what a flight does over its terrain, with so many workers and under a name
abbrev pub flown : ℕ → List ℕ → Stage Fly → List Action
flown workers name stage =
    fly_actions stage.land.terrain stage.script.k stage.script.levels workers stage.script.lines name

-- what a `fly` does
unfoldable pub fly_outcome : Verdict → FlyView → Files → Outcome
fly_outcome verdict fly files = concluded (flown fly.workers fly.out) (fly_reading verdict fly files)

-- a script with its store, as contracts see them
abbrev pub stage_view : Staged → Stage Fly
stage_view staged = record { script = script_view staged.script; land = land_of staged.store }
