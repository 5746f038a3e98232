-- The status of a run, and how a run with a status ended.
use Rattle.std.specs.Prelude.{◌≡◌, ◌==◌, ℕ, Result, Ok, Err, ◌⊎◌, if◌then◌else◌}
use Rattle.outer_shelf.specs.Counts.{Rose}
use Rattle.outer_shelf.specs.Outside.{ShelfTold, SinkTold}
use Rattle.run_actions.specs.declared.halt.Halt.{Halt}
use Rattle.run_actions.specs.declared.halt.Halt.TheVariants as halt

-- done is 0, and a halt by the shelf 3, by the sink 4 and for want of memory 5
abbrev pub run_status : Result (Unit {0}) Halt → ℕ
run_status (Ok _) = 0
run_status (Err halt.ShelfFailed) = 3
run_status (Err halt.SinkFailed) = 4
run_status (Err halt.NoMemory) = 5

-- how the run with a status ended
abbrev pub ended_by : ℕ → Result (Unit {0}) Halt
ended_by status =
    if status == 0 then Ok tt
    else if status == 3 then Err halt.ShelfFailed
    else if status == 4 then Err halt.SinkFailed
    else Err halt.NoMemory

-- a status that a run has
abbrev pub IsRunStatus : ℕ → Type 0
IsRunStatus status = (status ≡ 0) ⊎ ((status ≡ 3) ⊎ ((status ≡ 4) ⊎ (status ≡ 5)))

-- where no count of faults rose, all was done or memory was wanting
abbrev pub IsComplete : ℕ → ShelfTold → ShelfTold → SinkTold → SinkTold → Type 0
IsComplete status shelf shelf' sink sink' =
    ¬ Rose shelf.faults shelf'.faults → ¬ Rose sink.faults sink'.faults → (status ≡ 0) ⊎ (status ≡ 5)
