-- The other top call: `swarm`.
use Rattle.std.specs.Prelude.{◌≡◌, ℕ, ◌*◌, ◌^◌, ◌≤◌, ◌⊎◌, nat_lt, if◌then◌else◌, List, [], All, Option, None, Some, IfSome, Result, Ok, Err}
use Rattle.outer_shelf.specs.Counts.{Rose}
use Rattle.outer_shelf.specs.Outside.{Files, ShelfTold, SinkTold}
use Rattle.terrain_store.specs.Stores.{land_of}
use Rattle.clip_script.specs.Ranges.{AreSizes, IsMove}
use Rattle.clip_script.specs.Scripts.{Swarm, swarm_of, swarm_view as script_view}
use Rattle.clipmap_words.specs.Swarm.{SwarmView, swarm_words_of}
use Rattle.run_actions.specs.Runs.{Leaving}
use Rattle.run_actions.specs.declared.halt.Halt.{Halt}
use Rattle.swarm_runs.specs.Products.{Product, Ends, MayCome, orders_of}
use Rattle.clipmap_prog.specs.Faults.{Cause, TooMuch, Words, cause_line}
use Rattle.clipmap_prog.specs.Promise.{status_of}
use Rattle.clipmap_prog.specs.Reading.{Reading}
use Rattle.clipmap_prog.specs.Scripts.{Stage, scripted, stage_reading}
use Rattle.clipmap_prog.specs.Stores.{ByVerdict, Verdict}
use Rattle.clipmap_prog.specs.declared.swarms.Staged.{Staged}

-- ---- the script and its inputs

-- the most cells that a swarm may draw, 2^24
abbrev pub cells_limit : ℕ
cells_limit = 16777216

-- how many cells so many renderers draw at most: 4^K of each level in each frame
abbrev pub cells_of : ℕ → Swarm → ℕ
cells_of renderers script = renderers * script.begins * script.levels * 4 ^ script.k

-- a script that doesn't ask for more than that of so many renderers
abbrev pub bounded : ℕ → Swarm → Result Swarm Cause
bounded renderers script =
    if nat_lt cells_limit (cells_of renderers script) then Err (TooMuch (cells_of renderers script) cells_limit)
    else Ok script

abbrev pub bounded_by : ℕ → Result Swarm Cause → Result Swarm Cause
bounded_by renderers (Ok script) = bounded renderers script
bounded_by renderers (Err cause) = Err cause

-- the script of a file's bytes, for so many renderers, or why they are none
abbrev pub read_swarm : ℕ → List ℕ → Result Swarm Cause
read_swarm renderers bytes = bounded_by renderers (scripted (swarm_of bytes))

-- how many levels a script has
abbrev pub levels_of : Swarm → ℕ
levels_of script = script.levels

-- what a `swarm` comes to: its script is judged before any input
abbrev pub swarm_reading : Verdict → SwarmView → Files → Reading (Stage Swarm)
swarm_reading verdict swarm files =
    stage_reading (read_swarm swarm.renderers) levels_of verdict swarm.script swarm.inputs files

-- a script that so many renderers can do over a terrain of so many levels
pub record IsScriptInRange (renderers levels : ℕ) (script : Swarm) : Type 0 where
  pub sizes : AreSizes script.k script.levels
  pub same : script.levels ≡ levels
  pub moves : All IsMove script.moves
  pub few_cells : cells_of renderers script ≤ cells_limit

-- a script with its store, as contracts see them
abbrev pub stage_view : Staged → Stage Swarm
stage_view staged = record { script = script_view staged.script; land = land_of staged.store }

abbrev pub IsStageInRange : ℕ → Stage Swarm → Type 0
IsStageInRange renderers stage = IsScriptInRange renderers stage.land.levels stage.script

-- ---- what may come of it

-- a refusal: the line of its cause, and no file
abbrev pub refusal : ℕ → Cause → Product
refusal status cause = record { status = status; files = []; text = cause_line cause }

-- this may come of a `swarm`, by what its reading found
abbrev pub MayComeOf : SwarmView → Result (Stage Swarm) Cause → Product → Type 0
MayComeOf swarm (Err cause) product = product ≡ refusal 2 cause
MayComeOf swarm (Ok stage) product =
    MayCome (orders_of stage.script swarm.workers swarm.renderers) stage.land.terrain stage.script.k
    stage.script.levels swarm.out product

-- the same of words, and how many files are fetched for them: words that are no swarm are refused
abbrev pub MayComeOfWords : Verdict → Option SwarmView → Files → Product → Type 0
MayComeOfWords verdict None files product = product ≡ refusal 1 Words
MayComeOfWords verdict (Some swarm) files product = MayComeOf swarm (swarm_reading verdict swarm files).found product

abbrev pub fetches_of : Verdict → Option SwarmView → Files → ℕ
fetches_of verdict None files = 0
fetches_of verdict (Some swarm) files = (swarm_reading verdict swarm files).fetches

-- the inputs that may be a store
abbrev pub inputs_of : Option SwarmView → List (List ℕ)
inputs_of None = []
inputs_of (Some swarm) = swarm.inputs

-- ---- the promise

-- how a run of a swarm ends, where the shelf tells its files
abbrev pub SwarmEnds : Leaving → Verdict → Option SwarmView → Result ℕ Halt → ShelfTold → ShelfTold → SinkTold → SinkTold → Type 0
SwarmEnds leaves verdict swarm result shelf shelf' sink sink' =
    IfSome shelf.files (λ files.
    Ends leaves (MayComeOfWords verdict swarm files) (fetches_of verdict swarm files) result shelf shelf' sink sink')

-- the status is that of an end of this kind
pub record Answers (IsEnd : Result ℕ Halt → Type 0) (status : ℕ) : Type 0 where
  pub ended : Result ℕ Halt
  pub same : status ≡ status_of ended
  pub so : IsEnd ended

-- a status answers the words of a swarm, by each right verdict on the file of the store that they name
abbrev pub AnswersSwarm : Leaving → List (List ℕ) → ℕ → ShelfTold → ShelfTold → SinkTold → SinkTold → Type 0
AnswersSwarm leaves words status shelf shelf' sink sink' =
    ByVerdict (inputs_of (swarm_words_of words)) shelf.files (λ verdict.
    Answers (λ ended. SwarmEnds leaves verdict (swarm_words_of words) ended shelf shelf' sink sink') status)

-- the causes of a status, for every shelf and sink: status 1 is for words that are no swarm, and 3 and 4 for a count
-- of faults that rose
pub record HasSwarmCauses (words : List (List ℕ)) (status : ℕ) (shelf shelf' : ShelfTold)
    (sink sink' : SinkTold) : Type 0 where
  pub no_words : status ≡ 1 → swarm_words_of words ≡ None
  pub no_swarm : swarm_words_of words ≡ None → (status ≡ 1) ⊎ ((status ≡ 4) ⊎ (status ≡ 5))
  pub shelf_failed : status ≡ 3 → Rose shelf.faults shelf'.faults
  pub sink_failed : status ≡ 4 → Rose sink.faults sink'.faults
  pub statuses : status ≤ 6
