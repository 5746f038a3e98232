-- What is shown of a run of a swarm.
use Rattle.std.specs.Prelude.{ℕ, ◌+◌, List, Result, Ok, Err, if◌then◌else◌}
use Rattle.outer_shelf.specs.Outside.{ShelfTold, SinkTold}
use Rattle.run_actions.specs.Actions.{content_of, put_count}
use Rattle.run_actions.specs.Runs.{Leaving, CallsWithin}
use Rattle.run_actions.specs.declared.halt.Halt.{Halt}
use Rattle.clip_swarm.specs.declared.running.SwarmRun.{SwarmRun}
use Rattle.swarm_plays.specs.Journals.{journal_text}
use Rattle.swarm_runs.specs.Products.{Product, CameTo, frame_puts}

-- the files and the text of a run, under a name
abbrev pub product_of : ℕ → ℕ → List ℕ → SwarmRun → Product
product_of k levels name run = record {
  status = if run.full then 6 else 0;
  files = frame_puts name run.frames.items;
  text = journal_text k levels run.journal;
}

-- a writing that was done has that status, and one that halted has none
abbrev pub with_status : ℕ → Result (Unit {0}) Halt → Result ℕ Halt
with_status status (Ok _) = Ok status
with_status status (Err halt) = Err halt

-- what was done of a product, after no fetch
pub record HasShown (leaves : Leaving) (product : Product) (result : Result ℕ Halt) (shelf shelf' : ShelfTold)
    (sink sink' : SinkTold) : Type 0 where
  pub did : CameTo leaves product result (content_of shelf sink) (content_of shelf' sink')
  pub shelf_calls : CallsWithin (0 + put_count product.files) shelf.calls shelf'.calls
  pub sink_calls : CallsWithin 1 sink.calls sink'.calls
