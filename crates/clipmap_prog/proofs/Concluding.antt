-- How a command's reading and its run conclude its outcome.
use Rattle.std.proofs.Common.{◌≡◌, ℕ, ◌+◌, List, [], ◌∷◌, Option, None, Some, IfSome, IfOk, Result, Ok, Err, refl, sym, subst, arith}
use Rattle.outer_shelf.specs.Outside.{Files, ShelfTold, SinkTold}
use Rattle.run_actions.specs.Actions.{Action, Write}
use Rattle.clipmap_prog.specs.Faults.{Cause, cause_line}
use Rattle.clipmap_prog.specs.Reading.{Reading}
use Rattle.clipmap_prog.specs.Outcome.{Outcome, refused, concluded, concluded_by}
use Rattle.run_actions.specs.Runs.{Leaving, CallsWithin, Ran, WriteEnds}
use Rattle.clipmap_prog.specs.Promise.{with_status, RanTo, Runs}
use Rattle.run_actions.specs.declared.halt.Halt.{Halt}
use Rattle.run_actions.proofs.Ends.{within_none, within_more, ran_then, ran_write, ran_none}

-- what follows for each value of an option
pub each_some : {A : Type 0} (P Q : A → Type 0) (o : Option A) → ((a : A) → P a → Q a) → IfSome o P → IfSome o Q
each_some P Q None f h = tt
each_some P Q (Some a) f h = f a h

pub both_some : {A : Type 0} (P Q R : A → Type 0) (o : Option A) → ((a : A) → P a → Q a → R a) → IfSome o P → IfSome o Q → IfSome o R
both_some P Q R None f h k = tt
both_some P Q R (Some a) f h k = f a h k

-- a reading is a run of no action
ran_read : (leaves : Leaving) (fetches : ℕ) (s s1 : ShelfTold) (k : SinkTold) → s1.files ≡ s.files → CallsWithin fetches s.calls s1.calls → Ran {A = Unit {0}} leaves fetches [] (Ok tt) s s1 k k
ran_read leaves fetches s s1 k files calls = record {
  did = record { files = files; written = refl };
  shelf_calls = within_more fetches (fetches + 0) s.calls s1.calls calls (omega arith);
  sink_calls = within_none k.calls k.calls refl;
}

-- a run with a status
ran_status : (leaves : Leaving) (fetches status : ℕ) (actions : List Action) (r : Result (Unit {0}) Halt) (s s1 : ShelfTold) (k k1 : SinkTold) →
    Ran leaves fetches actions r s s1 k k1 → Ran leaves fetches actions (with_status status r) s s1 k k1
ran_status leaves fetches status actions (Ok x) s s1 k k1 ran = record { did = ran.did; shelf_calls = ran.shelf_calls; sink_calls = ran.sink_calls }
ran_status leaves fetches status actions (Err h) s s1 k k1 ran = record { did = ran.did; shelf_calls = ran.shelf_calls; sink_calls = ran.sink_calls }

status_is : (status : ℕ) (r : Result (Unit {0}) Halt) → IfOk (with_status status r) (λ st. st ≡ status)
status_is status (Ok x) = refl
status_is status (Err h) = tt

-- what was read and then done, with a status
ran_to : (leaves : Leaving) (outcome : Outcome) (r : Result (Unit {0}) Halt) (out : Result ℕ Halt) (s s1 s2 : ShelfTold) (k k2 : SinkTold) →
    s1.files ≡ s.files → CallsWithin outcome.fetches s.calls s1.calls → Ran leaves 0 outcome.actions r s1 s2 k k2 → out ≡ with_status outcome.status r → RanTo leaves outcome out s s2 k k2
ran_to leaves outcome r out s s1 s2 k k2 files calls ran is =
    let To : Result ℕ Halt → Type 0 = λ o. RanTo leaves outcome o s s2 k k2 in
    let whole : Ran leaves outcome.fetches outcome.actions r s s2 k k2 =
    ran_then {A = Unit {0}} leaves outcome.fetches [] outcome.actions tt r s s1 s2 k k k2 (ran_read leaves outcome.fetches s s1 k files calls) ran in
    subst To (sym is) (record { status = status_is outcome.status r; ran = ran_status leaves outcome.fetches outcome.status outcome.actions r s s2 k k2 whole })

-- a reading that found something, and the run of its actions
pub concluded_done : {A : Type 0} (leaves : Leaving) (actions : A → List Action) (reading : Files → Reading A) (found : A) (r : Result (Unit {0}) Halt) (out : Result ℕ Halt) (s s1 s2 : ShelfTold) (k k2 : SinkTold) →
    IfSome s.files (λ files. (reading files).found ≡ Ok found) → IfSome s.files (λ files. CallsWithin (reading files).fetches s.calls s1.calls) → s1.files ≡ s.files →
    Ran leaves 0 (actions found) r s1 s2 k k2 → out ≡ with_status 0 r → Runs leaves (λ files. concluded actions (reading files)) out s s2 k k2
concluded_done {A} leaves actions reading found r out s s1 s2 k k2 is calls files ran status =
    both_some (λ f. (reading f).found ≡ Ok found) (λ f. CallsWithin (reading f).fetches s.calls s1.calls) (λ f. RanTo leaves (concluded actions (reading f)) out s s2 k k2) s.files
    (λ f here few.
    let To : Result A Cause → Type 0 = λ o. RanTo leaves (concluded_by actions (reading f).fetches o) out s s2 k k2 in
    subst To (sym here) (ran_to leaves (concluded_by actions (reading f).fetches (Ok found)) r out s s1 s2 k k2 files few ran status))
    is calls

-- a reading that was refused, and the line of its fault
pub concluded_refused : {A : Type 0} (leaves : Leaving) (actions : A → List Action) (reading : Files → Reading A) (cause : Cause) (r : Result (Unit {0}) Halt) (out : Result ℕ Halt) (s s1 : ShelfTold) (k k2 : SinkTold) →
    IfSome s.files (λ files. (reading files).found ≡ Err cause) → IfSome s.files (λ files. CallsWithin (reading files).fetches s.calls s1.calls) → s1.files ≡ s.files →
    WriteEnds (cause_line cause) r k.written k2.written → CallsWithin 1 k.calls k2.calls → out ≡ with_status 2 r → Runs leaves (λ files. concluded actions (reading files)) out s s1 k k2
concluded_refused {A} leaves actions reading cause r out s s1 k k2 is calls files ends one status =
    both_some (λ f. (reading f).found ≡ Err cause) (λ f. CallsWithin (reading f).fetches s.calls s1.calls) (λ f. RanTo leaves (concluded actions (reading f)) out s s1 k k2) s.files
    (λ f here few.
    let To : Result A Cause → Type 0 = λ o. RanTo leaves (concluded_by actions (reading f).fetches o) out s s1 k k2 in
    subst To (sym here) (ran_to leaves (refused 2 (reading f).fetches cause) r out s s1 s1 k k2 files few (ran_write leaves (cause_line cause) r s1 k k2 ends one) status))
    is calls

-- a reading that halted
pub concluded_halted : {A : Type 0} (leaves : Leaving) (actions : A → List Action) (reading : Files → Reading A) (h : Halt) (s s1 : ShelfTold) (k : SinkTold) →
    IfSome s.files (λ files. CallsWithin (reading files).fetches s.calls s1.calls) → s1.files ≡ s.files → Runs leaves (λ files. concluded actions (reading files)) (Err h) s s1 k k
concluded_halted {A} leaves actions reading h s s1 k calls files =
    each_some (λ f. CallsWithin (reading f).fetches s.calls s1.calls) (λ f. RanTo leaves (concluded actions (reading f)) (Err h) s s1 k k) s.files
    (λ f few. halted f (reading f).found few) calls where
      halted : (f : Files) (o : Result A Cause) → CallsWithin (reading f).fetches s.calls s1.calls → RanTo leaves (concluded_by actions (reading f).fetches o) (Err h) s s1 k k
      halted f (Ok found) few = record { status = tt; ran = ran_none leaves (reading f).fetches (actions found) h s s1 k files few }
      halted f (Err cause) few = record { status = tt; ran = ran_none leaves (reading f).fetches (Write (cause_line cause) ∷ []) h s s1 k files few }
