-- The files of a product and then its text.
use Rattle.std.proofs.Common.{◌≡◌, ℕ, ◌+◌, ◌≤◌, List, [], ◌∷◌, Option, Result, Ok, Err, refl, sym, subst, arith}
use Rattle.outer_shelf.specs.Counts.{Rose}
use Rattle.outer_shelf.specs.Outside.{AppendsFront, ShelfTold, SinkTold}
use Rattle.run_actions.specs.Actions.{Write, content_of, put_count}
use Rattle.run_actions.specs.Runs.{Leaving, OnHalt, HadReason, CallsWithin, WriteEnds}
use Rattle.run_actions.specs.declared.halt.Halt.{Halt}
use Rattle.run_actions.specs.declared.halt.Halt.TheVariants as halt
use Rattle.run_actions.proofs.Ends.{did_then, halted_append, halted_first, ran_write, within_more, within_none}
use Rattle.swarm_runs.specs.Products.{Product, CameTo, actions_of}
use Rattle.swarm_runs.specs.Puts.{HasPut}
use Rattle.swarm_runs.specs.Shown.{HasShown, with_status}

module _ (leaves : Leaving) (product : Product) where
  -- the text of a product whose files were put
  came : (r : Result (Unit {0}) Halt) (s s1 : ShelfTold) (k k1 : SinkTold) → HasPut leaves product.files (Ok tt) s s1 → WriteEnds product.text r k.written k1.written → CallsWithin 1 k.calls k1.calls →
      CameTo leaves product (with_status product.status r) (content_of s k) (content_of s1 k1)
  came (Ok _) s s1 k k1 put ends calls =
      (refl, did_then {A = Unit {0}} {B = Unit {0}} leaves product.files (Write product.text ∷ []) tt (Ok tt) (content_of s k) (content_of s1 k) (content_of s1 k1) (put.ran k).did (ran_write leaves product.text (Ok tt) s1 k k1 ends calls).did)
  came (Err halt.ShelfFailed) s s1 k k1 put ends calls = absurd ends
  came (Err halt.SinkFailed) s s1 k k1 put ends calls =
      let same = (put.ran k).did in
      record { files = same.files; front = subst (λ (w : Option (List ℕ)). AppendsFront product.text w k1.written) same.written ends }
  came (Err halt.NoMemory) s s1 k k1 put ends calls =
      did_then {A = Unit {0}} {B = Unit {0}} leaves product.files (Write product.text ∷ []) tt (Err halt.NoMemory) (content_of s k) (content_of s1 k) (content_of s1 k1) (put.ran k).did (ran_write leaves product.text (Err halt.NoMemory) s1 k k1 ends calls).did

  pub shown_after : (r : Result (Unit {0}) Halt) (out : Result ℕ Halt) (s s1 : ShelfTold) (k k1 : SinkTold) → out ≡ with_status product.status r → HasPut leaves product.files (Ok tt) s s1 →
      WriteEnds product.text r k.written k1.written → CallsWithin 1 k.calls k1.calls → HasShown leaves product out s s1 k k1
  shown_after r out s s1 k k1 is put ends calls =
      subst (λ (o : Result ℕ Halt). HasShown leaves product o s s1 k k1) (sym is) (record { did = came r s s1 k k1 put ends calls; shelf_calls = (put.ran k).shelf_calls; sink_calls = calls })

  halted : (h : Halt) (s s1 : ShelfTold) (k : SinkTold) → HasPut leaves product.files (Err h) s s1 → CameTo leaves product (Err h) (content_of s k) (content_of s1 k)
  halted halt.ShelfFailed s s1 k put = (put.ran k).did
  halted halt.SinkFailed s s1 k put = absurd put.reason
  halted halt.NoMemory s s1 k put = halted_append leaves halt.NoMemory product.files (Write product.text ∷ []) (content_of s k) (content_of s1 k) (put.ran k).did

  -- the run halted at a file
  pub shown_halted : (h : Halt) (s s1 : ShelfTold) (k : SinkTold) → HasPut leaves product.files (Err h) s s1 → HasShown leaves product (Err h) s s1 k k
  shown_halted h s s1 k put = record {
    did = halted h s s1 k put;
    shelf_calls = (put.ran k).shelf_calls;
    sink_calls = within_more 0 1 k.calls k.calls (within_none k.calls k.calls refl) (omega arith);
  }

  -- nothing was done, for want of memory
  pub shown_none : (s : ShelfTold) (k : SinkTold) → HasShown leaves product (Err halt.NoMemory) s s k k
  shown_none s k = record {
    did = halted_first leaves halt.NoMemory (actions_of product) (content_of s k) (content_of s k) (record { files = refl; written = refl });
    shelf_calls = within_more 0 (0 + put_count product.files) s.calls s.calls (within_none s.calls s.calls refl) (omega arith);
    sink_calls = within_more 0 1 k.calls k.calls (within_none k.calls k.calls refl) (omega arith);
  }

-- the reasons of the parts
halt_reason : (h : Halt) (s s1 : ShelfTold) (k : SinkTold) → OnHalt {A = Unit {0}} (Err h) (Rose s.faults s1.faults) ⊥ → OnHalt {A = ℕ} (Err h) (Rose s.faults s1.faults) (Rose k.faults k.faults)
halt_reason halt.ShelfFailed s s1 k rose = rose
halt_reason halt.SinkFailed s s1 k rose = absurd rose
halt_reason halt.NoMemory s s1 k rose = tt

pub reason_halted : (h : Halt) (s s1 : ShelfTold) (k : SinkTold) → OnHalt {A = Unit {0}} (Err h) (Rose s.faults s1.faults) ⊥ → s.faults ≤ s1.faults → HadReason {A = ℕ} (Err h) s s1 k k
reason_halted h s s1 k rose stay = record { reason = halt_reason h s s1 k rose; shelf_stays = stay; sink_stays = omega arith }

write_reason : (status : ℕ) (r : Result (Unit {0}) Halt) (s s1 : ShelfTold) (k k1 : SinkTold) → OnHalt r ⊥ (Rose k.faults k1.faults) → OnHalt (with_status status r) (Rose s.faults s1.faults) (Rose k.faults k1.faults)
write_reason status (Ok _) s s1 k k1 rose = tt
write_reason status (Err halt.ShelfFailed) s s1 k k1 rose = absurd rose
write_reason status (Err halt.SinkFailed) s s1 k k1 rose = rose
write_reason status (Err halt.NoMemory) s s1 k k1 rose = tt

pub reason_after : (status : ℕ) (r : Result (Unit {0}) Halt) (out : Result ℕ Halt) (s s1 : ShelfTold) (k k1 : SinkTold) → out ≡ with_status status r →
    OnHalt r ⊥ (Rose k.faults k1.faults) → s.faults ≤ s1.faults → k.faults ≤ k1.faults → HadReason out s s1 k k1
reason_after status r out s s1 k k1 is rose shelf_stays sink_stays =
    subst (λ (o : Result ℕ Halt). HadReason o s s1 k k1) (sym is) (record { reason = write_reason status r s s1 k k1 rose; shelf_stays = shelf_stays; sink_stays = sink_stays })
