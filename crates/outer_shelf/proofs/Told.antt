-- What the exact clauses of the shelf and the sink in memory give of the clauses of their traits.
use Rattle.std.proofs.Common.{◌≡◌, ℕ, ◌++◌, Bool, true, false, List, [], Some, Result, Ok, Err, IsTrue, OnOk, OnErr, IfErr, refl, sym, ap, subst, arith}
use Rattle.std.specs.Prelude.{if◌then◌else◌}
use Rattle.outer_shelf.specs.declared.traits.Fetched.{Fetched}
use Rattle.outer_shelf.specs.declared.traits.Fetched.TheVariants as fetched
use Rattle.outer_shelf.specs.declared.traits.PutFault.{PutFault}
use Rattle.outer_shelf.specs.declared.traits.PutFault.TheVariants as put_fault
use Rattle.outer_shelf.specs.declared.traits.SinkFault.{SinkFault}
use Rattle.outer_shelf.specs.declared.traits.SinkFault.TheVariants as sink_fault
use Rattle.outer_shelf.specs.Counts.{Rose, one_more}
use Rattle.outer_shelf.specs.Outside.{AppendsFront, OnFetchFailed, OnPutFailed, OnWriteFailed}
use Rattle.outer_shelf.specs.Memory.{is_failing, faults_after}

-- a fact may be replaced by one that follows
pub on_ok : {A E P Q : Type 0} (r : Result A E) → (P → Q) → OnOk r P → OnOk r Q
on_ok (Ok x) f h = f h
on_ok (Err e) f h = tt

pub on_err : {A E P Q : Type 0} (r : Result A E) → (P → Q) → OnErr r P → OnErr r Q
on_err (Ok x) f h = tt
on_err (Err e) f h = f h

-- what follows from either variant holds
pub either_way : {A E P Q X : Type 0} (r : Result A E) → (P → X) → (Q → X) → OnOk r P → OnErr r Q → X
either_way (Ok x) f g h k = f h
either_way (Err e) f g h k = g k

-- one more is a rise
one_more-rises : (n : ℕ) → Rose n (one_more n)
one_more-rises n = grind arith

-- a count that is one more where a test passes rises there
rises_if : (b : Bool) (n now : ℕ) → now ≡ (if b then one_more n else n) → IsTrue b → Rose n now
rises_if true n now is h = subst (Rose n) (sym is) (one_more-rises n)
rises_if false n now is h = cc

-- the count of faults rises in a call that is to fail
pub faults_after-rises : (failing : List ℕ) (call faults now : ℕ) → now ≡ faults_after failing call faults →
    IsTrue (is_failing failing call) → Rose faults now
faults_after-rises failing call faults now is listed = rises_if (is_failing failing call) faults now is listed

-- a fetch that failed was one that was to fail
pub fetch_failed : (r : Fetched) {P F : Type 0} → (r ≡ fetched.Failed → F) → (F → P) → OnFetchFailed r P
fetch_failed (fetched.Found x) f g = tt
fetch_failed fetched.Absent f g = tt
fetch_failed (fetched.TooLong x y) f g = tt
fetch_failed fetched.Failed f g = g (f refl)
fetch_failed fetched.NoMemory f g = tt

-- a put that failed was one that was to fail
pub put_failed : (r : Result (Unit {0}) PutFault) {P F : Type 0} → (r ≡ Err put_fault.Failed → F) → (F → P) →
    IfErr r (λ fault. OnPutFailed fault P)
put_failed (Ok x) f g = tt
put_failed (Err put_fault.Failed) f g = g (f refl)
put_failed (Err put_fault.NoMemory) f g = tt

-- a write that failed was one that was to fail
pub write_failed : (r : Result (Unit {0}) SinkFault) {P F : Type 0} → (r ≡ Err sink_fault.Failed → F) → (F → P) →
    IfErr r (λ fault. OnWriteFailed fault P)
write_failed (Ok x) f g = tt
write_failed (Err sink_fault.Failed) f g = g (f refl)
write_failed (Err sink_fault.NoMemory) f g = tt

-- to append nothing is to append a front of any piece
pub appends_none : (piece before now : List ℕ) → now ≡ before ++ [] → AppendsFront piece (Some before) (Some now)
appends_none piece before now is = record { count = 0; bytes = ap Some is }
