-- The command `play`.
use Rattle.std.specs.Prelude.{ℕ, List, Result}
use Rattle.outer_shelf.specs.Outside.{Files}
use Rattle.terrain_store.specs.Stores.{land_of}
use Rattle.clip_script.specs.Scripts.{Play, play_of, play_view as script_view}
use Rattle.clip_desk.specs.Plays.{play_actions}
use Rattle.clipmap_words.specs.Play.{PlayView}
use Rattle.run_actions.specs.Actions.{Action}
use Rattle.clipmap_prog.specs.Faults.{Cause}
use Rattle.clipmap_prog.specs.Outcome.{Outcome, concluded}
use Rattle.clipmap_prog.specs.Reading.{Reading}
use Rattle.clipmap_prog.specs.Scripts.{Stage, scripted, stage_reading}
use Rattle.clipmap_prog.specs.Stores.{Verdict}
use Rattle.clipmap_prog.specs.declared.play.Staged.{Staged}

-- how many levels a script has
abbrev pub levels_of : Play → ℕ
levels_of script = script.levels

-- the script of a file's bytes, or why they are none
abbrev pub read_play : List ℕ → Result Play Cause
read_play bytes = scripted (play_of bytes)

-- what a `play` comes to
abbrev pub play_reading : Verdict → PlayView → Files → Reading (Stage Play)
play_reading verdict play files = stage_reading read_play levels_of verdict play.script play.inputs files

-- what the steps of a script do over its terrain, under a name
abbrev pub stage_actions : List ℕ → Stage Play → List Action
stage_actions name stage =
    play_actions stage.land.terrain stage.script.k stage.script.levels stage.script.steps name

-- what a `play` does
unfoldable pub play_outcome : Verdict → PlayView → Files → Outcome
play_outcome verdict play files = concluded (stage_actions play.out) (play_reading verdict play files)

-- a script with its store, as contracts see them
abbrev pub stage_view : Staged → Stage Play
stage_view staged = record { script = script_view staged.script; land = land_of staged.store }
