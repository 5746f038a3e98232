-- What a run comes to where it ends with a status.
use Rattle.std.proofs.Common.{◌≡◌, ℕ, ◌+◌, ◌≤◌, IfOk, Result, Ok, Err, inl, inr, refl, sym, subst, arith}
use Rattle.outer_shelf.specs.Outside.{Files, ShelfTold, SinkTold}
use Rattle.clipmap_prog.specs.Outcome.{Outcome}
use Rattle.clipmap_prog.specs.Promise.{Finishes, Halts, IsComplete, IsDone, RanTo, Runs, ShelfCallsWithin, SinkCallsWithin, Stands, status_of}
use Rattle.run_actions.specs.Actions.{content_of, put_count, write_count}
use Rattle.run_actions.specs.Runs.{Leaving, CallsWithin, HadReason, HaltedIn}
use Rattle.run_actions.specs.declared.halt.Halt.{Halt}
use Rattle.run_actions.specs.declared.halt.Halt.TheVariants as halt
use Rattle.clipmap_prog.proofs.Concluding.{each_some}

module _ (leaves : Leaving) (outcome : Files → Outcome) (s s1 : ShelfTold) (k k1 : SinkTold) where
  finished : (status : ℕ) → Runs leaves outcome (Ok status) s s1 k k1 → Finishes outcome status s s1 k k1
  finished status runs =
      each_some (λ f. RanTo leaves (outcome f) (Ok status) s s1 k k1) (λ f. IsDone (outcome f) status (content_of s k) (content_of s1 k1)) s.files
      (λ f ran. record { same_status = ran.status; content = ran.ran.did }) runs

  halted : (h : Halt) → Runs leaves outcome (Err h) s s1 k k1 → Halts leaves h outcome s s1 k k1
  halted h runs =
      each_some (λ f. RanTo leaves (outcome f) (Err h) s s1 k k1) (λ f. HaltedIn leaves h (outcome f).actions (content_of s k) (content_of s1 k1)) s.files
      (λ f ran. ran.ran.did) runs

  stands : (r : Result ℕ Halt) → IfOk r (λ st. st ≤ 2) → Runs leaves outcome r s s1 k k1 → Stands leaves outcome (status_of r) s s1 k k1
  stands (Ok status) small runs = record {
    done = λ _. finished status runs;
    shelf_stopped = λ e. absurd (omega (arith, small, e));
    sink_stopped = λ e. absurd (omega (arith, small, e));
    memory_stopped = λ e. absurd (omega (arith, small, e));
  }
  stands (Err halt.ShelfFailed) small runs = record {
    done = λ le. absurd (omega (arith, le));
    shelf_stopped = λ _. halted halt.ShelfFailed runs;
    sink_stopped = λ e. absurd (omega (arith, e));
    memory_stopped = λ e. absurd (omega (arith, e));
  }
  stands (Err halt.SinkFailed) small runs = record {
    done = λ le. absurd (omega (arith, le));
    shelf_stopped = λ e. absurd (omega (arith, e));
    sink_stopped = λ _. halted halt.SinkFailed runs;
    memory_stopped = λ e. absurd (omega (arith, e));
  }
  stands (Err halt.NoMemory) small runs = record {
    done = λ le. absurd (omega (arith, le));
    shelf_stopped = λ e. absurd (omega (arith, e));
    sink_stopped = λ e. absurd (omega (arith, e));
    memory_stopped = λ _. halted halt.NoMemory runs;
  }

  -- what stands after a run
  pub stands_of : (r : Result ℕ Halt) (status : ℕ) → status ≡ status_of r → IfOk r (λ st. st ≤ 2) → Runs leaves outcome r s s1 k k1 → Stands leaves outcome status s s1 k k1
  stands_of r status is small runs = subst (λ st. Stands leaves outcome st s s1 k k1) (sym is) (stands r small runs)

  complete : (r : Result ℕ Halt) → HadReason r s s1 k k1 → Runs leaves outcome r s s1 k k1 → IsComplete outcome (status_of r) s s1 k k1
  complete (Ok status) reason runs no_shelf no_sink = inl (finished status runs)
  complete (Err halt.ShelfFailed) reason runs no_shelf no_sink = absurd (no_shelf reason.reason)
  complete (Err halt.SinkFailed) reason runs no_shelf no_sink = absurd (no_sink reason.reason)
  complete (Err halt.NoMemory) reason runs no_shelf no_sink = inr refl

  -- a run that nothing hindered but want of memory is done
  pub complete_of : (r : Result ℕ Halt) (status : ℕ) → status ≡ status_of r → HadReason r s s1 k k1 → Runs leaves outcome r s s1 k k1 → IsComplete outcome status s s1 k k1
  complete_of r status is reason runs = subst (λ st. IsComplete outcome st s s1 k k1) (sym is) (complete r reason runs)

  -- the calls of a run
  pub shelf_calls_of : (r : Result ℕ Halt) → Runs leaves outcome r s s1 k k1 → ShelfCallsWithin outcome s s1
  shelf_calls_of r runs =
      each_some (λ f. RanTo leaves (outcome f) r s s1 k k1) (λ f. CallsWithin ((outcome f).fetches + put_count (outcome f).actions) s.calls s1.calls) s.files (λ f ran. ran.ran.shelf_calls) runs

  pub sink_calls_of : (r : Result ℕ Halt) → Runs leaves outcome r s s1 k k1 → SinkCallsWithin outcome s k k1
  sink_calls_of r runs =
      each_some (λ f. RanTo leaves (outcome f) r s s1 k k1) (λ f. CallsWithin (write_count (outcome f).actions) k.calls k1.calls) s.files (λ f ran. ran.ran.sink_calls) runs
