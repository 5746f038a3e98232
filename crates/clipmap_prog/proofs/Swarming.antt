-- How a reading and a run of a swarm end together.
use Rattle.std.proofs.Common.{◌≡◌, ℕ, ◌+◌, Option, IfSome, Result, Ok, Err, inl, inr, refl, sym, ap, ◌∙◌, subst, arith}
use Rattle.outer_shelf.specs.Outside.{Files, ShelfTold, SinkTold}
use Rattle.clip_script.specs.Scripts.{Swarm}
use Rattle.clipmap_words.specs.Swarm.{SwarmView}
use Rattle.run_actions.specs.Actions.{Content, content_of, put_count}
use Rattle.run_actions.specs.Runs.{Leaving, CallsWithin, WriteEnds}
use Rattle.run_actions.specs.declared.halt.Halt.{Halt}
use Rattle.run_actions.specs.declared.halt.Halt.TheVariants as halt
use Rattle.run_actions.proofs.Ends.{ran_write, within_add, within_none}
use Rattle.swarm_runs.specs.Products.{Product, CameTo, Ends, IsStopped}
use Rattle.clipmap_prog.specs.Faults.{Cause, cause_line}
use Rattle.clipmap_prog.specs.Promise.{with_status}
use Rattle.clipmap_prog.specs.Reading.{Reading, OnStop}
use Rattle.clipmap_prog.specs.Scripts.{Stage}
use Rattle.clipmap_prog.specs.Swarm.{MayComeOf, refusal}
use Rattle.clipmap_prog.specs.declared.reading.Stop.TheVariants as stop
use Rattle.clipmap_prog.proofs.Concluding.{each_some, both_some}

-- what a shelf with these files tells
same_content : (s s1 : ShelfTold) (k : SinkTold) → s1.files ≡ s.files → content_of s1 k ≡ content_of s k
same_content s s1 k files = ap (λ (f : Option Files). let c : Content = record { files = f; written = k.written } in c) files

-- an end after a reading that left the files
after_reading : (leaves : Leaving) (IsOne : Product → Type 0) (fetches : ℕ) (r : Result ℕ Halt) (s s1 s2 : ShelfTold) (k k2 : SinkTold) →
    s1.files ≡ s.files → CallsWithin fetches s.calls s1.calls → Ends leaves IsOne 0 r s1 s2 k k2 → Ends leaves IsOne fetches r s s2 k k2
after_reading leaves IsOne fetches r s s1 s2 k k2 files calls (inl stopped) = inl (record {
  stopped = stopped.stopped;
  same = record { files = stopped.same.files ∙ files; written = stopped.same.written };
  shelf_calls = within_add fetches 0 fetches s.calls s1.calls s2.calls calls stopped.shelf_calls (omega arith);
  sink_calls = stopped.sink_calls;
})
after_reading leaves IsOne fetches r s s1 s2 k k2 files calls (inr came) = inr (record {
  product = came.product;
  one = came.one;
  did = subst (λ (before : Content). CameTo leaves came.product r before (content_of s2 k2)) (same_content s s1 k files) came.did;
  shelf_calls = within_add fetches (0 + put_count came.product.files) (fetches + put_count came.product.files) s.calls s1.calls s2.calls calls came.shelf_calls (omega arith);
  sink_calls = came.sink_calls;
})

-- a refusal, and the line of its cause
wrote : (leaves : Leaving) (status : ℕ) (cause : Cause) (r : Result (Unit {0}) Halt) (s : ShelfTold) (k k1 : SinkTold) → WriteEnds (cause_line cause) r k.written k1.written → CallsWithin 1 k.calls k1.calls →
    CameTo leaves (refusal status cause) (with_status status r) (content_of s k) (content_of s k1)
wrote leaves status cause (Ok _) s k k1 ends calls = (refl, (ran_write leaves (cause_line cause) (Ok tt) s k k1 ends calls).did)
wrote leaves status cause (Err halt.ShelfFailed) s k k1 ends calls = absurd ends
wrote leaves status cause (Err halt.SinkFailed) s k k1 ends calls = record { files = refl; front = ends }
wrote leaves status cause (Err halt.NoMemory) s k k1 ends calls = (ran_write leaves (cause_line cause) (Err halt.NoMemory) s k k1 ends calls).did

pub refused_ends : (leaves : Leaving) (status : ℕ) (cause : Cause) (r : Result (Unit {0}) Halt) (out : Result ℕ Halt) (s : ShelfTold) (k k1 : SinkTold) →
    WriteEnds (cause_line cause) r k.written k1.written → CallsWithin 1 k.calls k1.calls → out ≡ with_status status r → Ends leaves (λ product. product ≡ refusal status cause) 0 out s s k k1
refused_ends leaves status cause r out s k k1 ends calls is =
    subst (λ (o : Result ℕ Halt). Ends leaves (λ product. product ≡ refusal status cause) 0 o s s k k1) (sym is)
    (inr (record { product = refusal status cause; one = refl; did = wrote leaves status cause r s k k1 ends calls; shelf_calls = within_none s.calls s.calls refl; sink_calls = calls }))

module _ (leaves : Leaving) (swarm : SwarmView) (reading : Files → Reading (Stage Swarm)) where
  -- a reading that found a stage, and what came of it
  pub swarm_done : (stage : Stage Swarm) (r : Result ℕ Halt) (s s1 s2 : ShelfTold) (k k2 : SinkTold) →
      IfSome s.files (λ f. (reading f).found ≡ Ok stage) → IfSome s.files (λ f. CallsWithin (reading f).fetches s.calls s1.calls) → s1.files ≡ s.files →
      Ends leaves (MayComeOf swarm (Ok stage)) 0 r s1 s2 k k2 → IfSome s.files (λ f. Ends leaves (MayComeOf swarm (reading f).found) (reading f).fetches r s s2 k k2)
  swarm_done stage r s s1 s2 k k2 is calls files ends =
      both_some (λ f. (reading f).found ≡ Ok stage) (λ f. CallsWithin (reading f).fetches s.calls s1.calls) (λ f. Ends leaves (MayComeOf swarm (reading f).found) (reading f).fetches r s s2 k k2) s.files
      (λ f here few.
      let To : Result (Stage Swarm) Cause → Type 0 = λ found. Ends leaves (MayComeOf swarm found) (reading f).fetches r s s2 k k2 in
      subst To (sym here) (after_reading leaves (MayComeOf swarm (Ok stage)) (reading f).fetches r s s1 s2 k k2 files few ends))
      is calls

  -- a reading that was refused, and the line of its fault
  pub swarm_refused : (cause : Cause) (r : Result (Unit {0}) Halt) (out : Result ℕ Halt) (s s1 : ShelfTold) (k k1 : SinkTold) →
      IfSome s.files (λ f. (reading f).found ≡ Err cause) → IfSome s.files (λ f. CallsWithin (reading f).fetches s.calls s1.calls) → s1.files ≡ s.files →
      WriteEnds (cause_line cause) r k.written k1.written → CallsWithin 1 k.calls k1.calls → out ≡ with_status 2 r →
      IfSome s.files (λ f. Ends leaves (MayComeOf swarm (reading f).found) (reading f).fetches out s s1 k k1)
  swarm_refused cause r out s s1 k k1 is calls files ends one status =
      both_some (λ f. (reading f).found ≡ Err cause) (λ f. CallsWithin (reading f).fetches s.calls s1.calls) (λ f. Ends leaves (MayComeOf swarm (reading f).found) (reading f).fetches out s s1 k k1) s.files
      (λ f here few.
      let To : Result (Stage Swarm) Cause → Type 0 = λ found. Ends leaves (MayComeOf swarm found) (reading f).fetches out s s1 k k1 in
      subst To (sym here) (after_reading leaves (MayComeOf swarm (Err cause)) (reading f).fetches out s s1 s1 k k1 files few (refused_ends leaves 2 cause r out s1 k k1 ends one status)))
      is calls

  is_stopped : (h : Halt) (rose : Type 0) → OnStop {A = Unit {0}} (Err (stop.Halted h)) rose → IsStopped (Err h)
  is_stopped halt.ShelfFailed rose reason = tt
  is_stopped halt.SinkFailed rose reason = absurd reason
  is_stopped halt.NoMemory rose reason = tt

  -- a reading that halted
  pub swarm_halted : (h : Halt) (rose : Type 0) (s s1 : ShelfTold) (k : SinkTold) → OnStop {A = Unit {0}} (Err (stop.Halted h)) rose →
      IfSome s.files (λ f. CallsWithin (reading f).fetches s.calls s1.calls) → s1.files ≡ s.files → IfSome s.files (λ f. Ends leaves (MayComeOf swarm (reading f).found) (reading f).fetches (Err h) s s1 k k)
  swarm_halted h rose s s1 k reason calls files =
      each_some (λ f. CallsWithin (reading f).fetches s.calls s1.calls) (λ f. Ends leaves (MayComeOf swarm (reading f).found) (reading f).fetches (Err h) s s1 k k) s.files
      (λ f few. inl (record {
        stopped = is_stopped h rose reason;
        same = record { files = files; written = refl };
        shelf_calls = few;
        sink_calls = within_none k.calls k.calls refl;
      })) calls
