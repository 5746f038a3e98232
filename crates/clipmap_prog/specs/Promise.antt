-- What the run of a command promises, against its outcome.
use Rattle.std.specs.Prelude.{◌≡◌, ℕ, ◌≤◌, ◌+◌, List, IfOk, IfSome, None, Result, Ok, Err, ◌⊎◌}
use Rattle.outer_shelf.specs.Counts.{Rose}
use Rattle.outer_shelf.specs.Outside.{Files, ShelfTold, SinkTold}
use Rattle.clipmap_words.specs.Commands.{command_of}
use Rattle.run_actions.specs.Actions.{Content, Same, content_after, content_of, put_count, write_count}
use Rattle.clipmap_prog.specs.Outcome.{Outcome}
use Rattle.run_actions.specs.Runs.{Leaving, HaltedIn, Ran, CallsWithin}
use Rattle.run_actions.specs.declared.halt.Halt.{Halt}
use Rattle.run_actions.specs.declared.halt.Halt.TheVariants as halt

-- a run that was done has that status, and one that halted has none
abbrev pub with_status : ℕ → Result (Unit {0}) Halt → Result ℕ Halt
with_status status (Ok _) = Ok status
with_status status (Err halt) = Err halt

-- the status with which the program ends
abbrev pub status_of : Result ℕ Halt → ℕ
status_of (Ok status) = status
status_of (Err halt.ShelfFailed) = 3
status_of (Err halt.SinkFailed) = 4
status_of (Err halt.NoMemory) = 5

-- what a run did of an outcome
pub record RanTo (leaves : Leaving) (outcome : Outcome) (result : Result ℕ Halt) (shelf shelf' : ShelfTold)
    (sink sink' : SinkTold) : Type 0 where
  pub status : IfOk result (λ status. status ≡ outcome.status)
  pub ran : Ran leaves outcome.fetches outcome.actions result shelf shelf' sink sink'

-- the same of the outcome over the shelf's files, where it tells them
abbrev pub Runs : Leaving → (Files → Outcome) → Result ℕ Halt → ShelfTold → ShelfTold → SinkTold → SinkTold → Type 0
Runs leaves outcome result shelf shelf' sink sink' =
    IfSome shelf.files (λ files. RanTo leaves (outcome files) result shelf shelf' sink sink')

-- an outcome is done: the status is its own, and each of its actions was done in its turn
pub record IsDone (outcome : Outcome) (status : ℕ) (before now : Content) : Type 0 where
  pub same_status : status ≡ outcome.status
  pub content : Same (content_after outcome.actions before) now

-- where the shelf tells its files: the outcome over them is done
abbrev pub Finishes : (Files → Outcome) → ℕ → ShelfTold → ShelfTold → SinkTold → SinkTold → Type 0
Finishes outcome status shelf shelf' sink sink' =
    IfSome shelf.files (λ files. IsDone (outcome files) status (content_of shelf sink) (content_of shelf' sink'))

-- where the shelf tells its files: a front of the actions of the outcome over them was done, and of the next one what
-- this halt leaves
abbrev pub Halts : Leaving → Halt → (Files → Outcome) → ShelfTold → ShelfTold → SinkTold → SinkTold → Type 0
Halts leaves halt outcome shelf shelf' sink sink' =
    IfSome shelf.files
    (λ files. HaltedIn leaves halt (outcome files).actions (content_of shelf sink) (content_of shelf' sink'))

-- what stands afterwards, where the shelf tells its files: with a status up to 2 the whole outcome, else a front of it
-- and what the refused call left
pub record Stands (leaves : Leaving) (outcome : Files → Outcome) (status : ℕ) (shelf shelf' : ShelfTold)
    (sink sink' : SinkTold) : Type 0 where
  pub done : status ≤ 2 → Finishes outcome status shelf shelf' sink sink'
  pub shelf_stopped : status ≡ 3 → Halts leaves halt.ShelfFailed outcome shelf shelf' sink sink'
  pub sink_stopped : status ≡ 4 → Halts leaves halt.SinkFailed outcome shelf shelf' sink sink'
  pub memory_stopped : status ≡ 5 → Halts leaves halt.NoMemory outcome shelf shelf' sink sink'

-- the causes of a status, for every shelf and sink: status 1 is for words that are no command, 3 and 4 for a count of
-- faults that rose, and 5 for want of memory
pub record HasCauses (words : List (List ℕ)) (status : ℕ) (shelf shelf' : ShelfTold)
    (sink sink' : SinkTold) : Type 0 where
  pub no_words : status ≡ 1 → command_of words ≡ None
  pub no_command : command_of words ≡ None → (status ≡ 1) ⊎ ((status ≡ 4) ⊎ (status ≡ 5))
  pub shelf_failed : status ≡ 3 → Rose shelf.faults shelf'.faults
  pub sink_failed : status ≡ 4 → Rose sink.faults sink'.faults
  pub statuses : status ≤ 5

-- where no count of faults rose, the outcome is done or memory was wanting
abbrev pub IsComplete : (Files → Outcome) → ℕ → ShelfTold → ShelfTold → SinkTold → SinkTold → Type 0
IsComplete outcome status shelf shelf' sink sink' =
    ¬ Rose shelf.faults shelf'.faults → ¬ Rose sink.faults sink'.faults
    → Finishes outcome status shelf shelf' sink sink' ⊎ (status ≡ 5)

-- no more calls are made than the outcome has fetches, puts and writes, where the calls and the files are told
abbrev pub ShelfCallsWithin : (Files → Outcome) → ShelfTold → ShelfTold → Type 0
ShelfCallsWithin outcome shelf shelf' =
    IfSome shelf.files
    (λ files. CallsWithin ((outcome files).fetches + put_count (outcome files).actions) shelf.calls shelf'.calls)

abbrev pub SinkCallsWithin : (Files → Outcome) → ShelfTold → SinkTold → SinkTold → Type 0
SinkCallsWithin outcome shelf sink sink' =
    IfSome shelf.files (λ files. CallsWithin (write_count (outcome files).actions) sink.calls sink'.calls)
