-- The reason of a halt, of the answer with a status.
use Rattle.std.proofs.Common.{◌≡◌, ℕ, Result, Ok, Err, sym, subst}
use Rattle.outer_shelf.specs.Counts.{Rose}
use Rattle.outer_shelf.specs.Outside.{ShelfTold, SinkTold}
use Rattle.clipmap_prog.specs.Promise.{with_status}
use Rattle.run_actions.specs.Runs.{HadReason, OnHalt}
use Rattle.run_actions.specs.declared.halt.Halt.{Halt}
use Rattle.run_actions.specs.declared.halt.Halt.TheVariants as halt

-- the reason of the answer with a status
status_reason : (status : ℕ) (result : Result (Unit {0}) Halt) (s s1 : ShelfTold) (k k1 : SinkTold) → HadReason result s s1 k k1 → HadReason (with_status status result) s s1 k k1
status_reason status (Ok x) s s1 k k1 reason = record { reason = tt; shelf_stays = reason.shelf_stays; sink_stays = reason.sink_stays }
status_reason status (Err h) s s1 k k1 reason = record { reason = halted h reason.reason; shelf_stays = reason.shelf_stays; sink_stays = reason.sink_stays } where
  halted : (h : Halt) → OnHalt {A = Unit {0}} (Err h) (Rose s.faults s1.faults) (Rose k.faults k1.faults) → OnHalt {A = ℕ} (Err h) (Rose s.faults s1.faults) (Rose k.faults k1.faults)
  halted halt.ShelfFailed rose = rose
  halted halt.SinkFailed rose = rose
  halted halt.NoMemory rose = rose

pub reason_of : (status : ℕ) (result : Result (Unit {0}) Halt) (out : Result ℕ Halt) (s s1 : ShelfTold) (k k1 : SinkTold) →
    out ≡ with_status status result → HadReason result s s1 k k1 → HadReason out s s1 k k1
reason_of status result out s s1 k k1 is reason = subst (λ o. HadReason o s s1 k k1) (sym is) (status_reason status result s s1 k k1 reason)
