-- What the words of a command line do.
use Rattle.std.specs.Prelude.{ℕ, List, [], Option, None, Some}
use Rattle.outer_shelf.specs.Outside.{Files, ShelfTold}
use Rattle.clipmap_words.specs.Commands.{CommandView, Check, Demo, Fly, Frame, Info, Pack, PackBy, Play, command_of}
use Rattle.clipmap_prog.specs.Check.{check_outcome}
use Rattle.clipmap_prog.specs.Demo.{demo_outcome}
use Rattle.clipmap_prog.specs.Faults.{Words}
use Rattle.clipmap_prog.specs.Fly.{fly_outcome}
use Rattle.clipmap_prog.specs.Frame.{frame_outcome}
use Rattle.clipmap_prog.specs.Info.{info_outcome}
use Rattle.clipmap_prog.specs.Pack.{pack_outcome, pack_by_outcome}
use Rattle.clipmap_prog.specs.Play.{play_outcome}
use Rattle.clipmap_prog.specs.Outcome.{Outcome, refused}
use Rattle.clipmap_prog.specs.Stores.{ByVerdict, Verdict}

-- what a command does with these files, by the verdict on the file of its store
abbrev pub command_outcome : Verdict → CommandView → Files → Outcome
command_outcome verdict (Check check) files = check_outcome check files
command_outcome verdict (Demo demo) files = demo_outcome demo files
command_outcome verdict (Fly fly) files = fly_outcome verdict fly files
command_outcome verdict (Frame frame) files = frame_outcome verdict frame files
command_outcome verdict (Info info) files = info_outcome verdict info files
command_outcome verdict (Pack pack) files = pack_outcome pack files
command_outcome verdict (PackBy pack) files = pack_by_outcome verdict pack files
command_outcome verdict (Play play) files = play_outcome verdict play files

-- the same, or where the words are no command
abbrev pub outcome_of : Verdict → Option CommandView → Files → Outcome
outcome_of verdict None files = refused 1 0 Words
outcome_of verdict (Some command) files = command_outcome verdict command files

-- what the words do with these files, by the verdict on the file of the store that they name
abbrev pub outcome : Verdict → List (List ℕ) → Files → Outcome
outcome verdict words files = outcome_of verdict (command_of words) files

-- the inputs of a command that may be a store
abbrev pub store_inputs : CommandView → List (List ℕ)
store_inputs (Check check) = []
store_inputs (Demo demo) = []
store_inputs (Fly fly) = fly.inputs
store_inputs (Frame frame) = frame.inputs
store_inputs (Info info) = info.inputs
store_inputs (Pack pack) = []
store_inputs (PackBy pack) = pack.inputs
store_inputs (Play play) = play.inputs

abbrev pub store_inputs_of : Option CommandView → List (List ℕ)
store_inputs_of None = []
store_inputs_of (Some command) = store_inputs command

-- this holds of the outcome of the words, by the right verdict on the file of the store that they name, if they name
-- one
abbrev pub OfOutcome : List (List ℕ) → ShelfTold → ((Files → Outcome) → Type 0) → Type 0
OfOutcome words shelf P =
    ByVerdict (store_inputs_of (command_of words)) shelf.files (λ verdict. P (outcome verdict words))
