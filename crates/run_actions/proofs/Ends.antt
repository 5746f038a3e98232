-- Laws of what a run did: how the parts of a list of actions compose, and how one put and one write are runs of one action.
use Rattle.std.proofs.Common.{◌≡◌, ℕ, ◌+◌, ◌≤◌, List, [], ◌∷◌, ◌++◌, Option, None, Some, Result, Ok, Err, inl, inr, refl, sym, ap, ◌∙◌, subst, arith, option_map}
use Rattle.outer_shelf.specs.Counts.{Rose, one_more}
use Rattle.outer_shelf.specs.Outside.{ShelfTold, SinkTold}
use Rattle.run_actions.specs.Actions.{Action, Put, Write, Content, Same, act, content_after, content_of, put_count, write_count}
use Rattle.run_actions.specs.Runs.{Leaving, HaltedIn, Did, CallsWithin, Ran, OnHalt, HadReason, PutEnds, WriteEnds}
use Rattle.run_actions.specs.declared.halt.Halt.{Halt}
use Rattle.run_actions.specs.declared.halt.Halt.TheVariants as halt

same_is : (before now : Content) → Same before now → now ≡ before
same_is before now same =
    ap (λ f. let c : Content = record { files = f; written = now.written } in c) same.files
    ∙ ap (λ w. let c : Content = record { files = before.files; written = w } in c) same.written

pub same_of : (before now : Content) → now ≡ before → Same before now
same_of before now is = record { files = ap (λ (c : Content). c.files) is; written = ap (λ (c : Content). c.written) is }

-- to have done nothing is to have halted before any action
pub halted_first : (leaves : Leaving) (h : Halt) (actions : List Action) (before now : Content) → Same before now → HaltedIn leaves h actions before now
halted_first leaves h [] before now same = same
halted_first leaves h (action ∷ actions) before now same = inl same

-- a run that halted in some actions halted in any list that they begin
pub halted_append : (leaves : Leaving) (h : Halt) (first second : List Action) (before now : Content) → HaltedIn leaves h first before now → HaltedIn leaves h (first ++ second) before now
halted_append leaves h [] second before now halted = halted_first leaves h second before now halted
halted_append leaves h (action ∷ first) second before now (inl same) = inl same
halted_append leaves h (action ∷ first) second before now (inr (inl left)) = inr (inl left)
halted_append leaves h (action ∷ first) second before now (inr (inr later)) = inr (inr (halted_append leaves h first second (act action before) now later))

-- a run that did some actions and halted in others halted in all of them
halted_after : (leaves : Leaving) (h : Halt) (first second : List Action) (before now : Content) → HaltedIn leaves h second (content_after first before) now → HaltedIn leaves h (first ++ second) before now
halted_after leaves h [] second before now halted = halted
halted_after leaves h (action ∷ first) second before now halted = inr (inr (halted_after leaves h first second (act action before) now halted))

content_after-append : (first second : List Action) (before : Content) → content_after (first ++ second) before ≡ content_after second (content_after first before)
content_after-append [] second before = refl
content_after-append (action ∷ first) second before = content_after-append first second (act action before)

-- what was done of some actions and then of others was done of all of them
pub did_then : {A B : Type 0} (leaves : Leaving) (first second : List Action) (x : A) (result : Result B Halt) (before mid now : Content) →
    Did leaves first (Ok x) before mid → Did leaves second result mid now → Did leaves (first ++ second) result before now
did_then {A} {B} leaves first second x (Ok y) before mid now done did =
    let Then : Content → Type 0 = λ c. Same (content_after second c) now in
    let Whole : Content → Type 0 = λ c. Same c now in
    subst Whole (sym (content_after-append first second before)) (subst Then (same_is (content_after first before) mid done) did)
did_then {A} {B} leaves first second x (Err h) before mid now done did =
    let Then : Content → Type 0 = λ c. HaltedIn leaves h second c now in
    halted_after leaves h first second before now (subst Then (same_is (content_after first before) mid done) did)

put_count-append : (first second : List Action) → put_count (first ++ second) ≡ put_count first + put_count second
put_count-append [] second = omega arith
put_count-append (Put _ _ ∷ first) second = omega (arith, put_count-append first second)
put_count-append (Write _ ∷ first) second = put_count-append first second

write_count-append : (first second : List Action) → write_count (first ++ second) ≡ write_count first + write_count second
write_count-append [] second = omega arith
write_count-append (Put _ _ ∷ first) second = write_count-append first second
write_count-append (Write _ ∷ first) second = omega (arith, write_count-append first second)

-- counts of calls
pub within_none : (before now : Option ℕ) → now ≡ before → CallsWithin 0 before now
within_none None now is = is
within_none (Some n) None is = cc
within_none (Some n) (Some m) is = let e : m ≡ n = cc in omega (arith, e)

pub within_one : (before now : Option ℕ) → now ≡ option_map one_more before → CallsWithin 1 before now
within_one None now is = is
within_one (Some n) None is = cc
within_one (Some n) (Some m) is = let e : m ≡ one_more n = cc in omega (arith, e)

pub within_add : (a b c : ℕ) (before mid now : Option ℕ) → CallsWithin a before mid → CallsWithin b mid now → a + b ≤ c → CallsWithin c before now
within_add a b c None None now first second few = second
within_add a b c None (Some m) now first second few = cc
within_add a b c (Some n) None now first second few = absurd first
within_add a b c (Some n) (Some m) None first second few = absurd second
within_add a b c (Some n) (Some m) (Some l) first second few = omega (arith, first, second)

pub within_more : (a b : ℕ) (before now : Option ℕ) → CallsWithin a before now → a ≤ b → CallsWithin b before now
within_more a b None now within few = within
within_more a b (Some n) None within few = absurd within
within_more a b (Some n) (Some m) within few = omega (arith, within)

-- the parts of a run
pub ran_then : {A B : Type 0} (leaves : Leaving) (fetches : ℕ) (first second : List Action) (x : A) (result : Result B Halt) (s s1 s2 : ShelfTold) (k k1 k2 : SinkTold) →
    Ran leaves fetches first (Ok x) s s1 k k1 → Ran leaves 0 second result s1 s2 k1 k2 → Ran leaves fetches (first ++ second) result s s2 k k2
ran_then leaves fetches first second x result s s1 s2 k k1 k2 a b = record {
  did = did_then leaves first second x result (content_of s k) (content_of s1 k1) (content_of s2 k2) a.did b.did;
  shelf_calls = within_add (fetches + put_count first) (0 + put_count second) (fetches + put_count (first ++ second)) s.calls s1.calls s2.calls a.shelf_calls b.shelf_calls (omega (arith, put_count-append first second));
  sink_calls = within_add (write_count first) (write_count second) (write_count (first ++ second)) k.calls k1.calls k2.calls a.sink_calls b.sink_calls (omega (arith, write_count-append first second));
}

pub ran_halted : {A B : Type 0} (leaves : Leaving) (fetches : ℕ) (first second : List Action) (h : Halt) (s s1 : ShelfTold) (k k1 : SinkTold) →
    Ran {A = A} leaves fetches first (Err h) s s1 k k1 → Ran {A = B} leaves fetches (first ++ second) (Err h) s s1 k k1
ran_halted leaves fetches first second h s s1 k k1 a = record {
  did = halted_append leaves h first second (content_of s k) (content_of s1 k1) a.did;
  shelf_calls = within_more (fetches + put_count first) (fetches + put_count (first ++ second)) s.calls s1.calls a.shelf_calls (omega (arith, put_count-append first second));
  sink_calls = within_more (write_count first) (write_count (first ++ second)) k.calls k1.calls a.sink_calls (omega (arith, write_count-append first second));
}

rose_later : (a b c : ℕ) → a ≤ b → Rose b c → Rose a c
rose_later a b c le (inl less) = inl (omega arith)
rose_later a b c le (inr last) = inr last

pub reason_then : {A B : Type 0} (x : A) (result : Result B Halt) (s s1 s2 : ShelfTold) (k k1 k2 : SinkTold) →
    HadReason (Ok x) s s1 k k1 → HadReason result s1 s2 k1 k2 → HadReason result s s2 k k2
reason_then x result s s1 s2 k k1 k2 a b = record {
  reason = later result b.reason;
  shelf_stays = omega (arith, a.shelf_stays, b.shelf_stays);
  sink_stays = omega (arith, a.sink_stays, b.sink_stays);
} where
  later : {B : Type 0} (r : Result B Halt) → OnHalt r (Rose s1.faults s2.faults) (Rose k1.faults k2.faults) → OnHalt r (Rose s.faults s2.faults) (Rose k.faults k2.faults)
  later (Ok y) h = tt
  later (Err halt.ShelfFailed) h = rose_later s.faults s1.faults s2.faults a.shelf_stays h
  later (Err halt.SinkFailed) h = rose_later k.faults k1.faults k2.faults a.sink_stays h
  later (Err halt.NoMemory) h = tt

-- one put is a run of one action
put_did : (leaves : Leaving) (name bytes : List ℕ) (result : Result (Unit {0}) Halt) (s s1 : ShelfTold) (k : SinkTold) →
    PutEnds leaves name bytes result s.files s1.files → Did leaves (Put name bytes ∷ []) result (content_of s k) (content_of s1 k)
put_did leaves name bytes (Ok _) s s1 k ends = record { files = ends; written = refl }
put_did leaves name bytes (Err halt.ShelfFailed) s s1 k ends = inr (inl (record { left = ends.0; elsewhere = ends.1; written = refl }))
put_did leaves name bytes (Err halt.SinkFailed) s s1 k ends = absurd ends
put_did leaves name bytes (Err halt.NoMemory) s s1 k ends = inr (inl (record { left = ends.0; elsewhere = ends.1; written = refl }))

pub ran_put : (leaves : Leaving) (name bytes : List ℕ) (result : Result (Unit {0}) Halt) (s s1 : ShelfTold) (k : SinkTold) →
    PutEnds leaves name bytes result s.files s1.files → CallsWithin 1 s.calls s1.calls → Ran leaves 0 (Put name bytes ∷ []) result s s1 k k
ran_put leaves name bytes result s s1 k ends calls = record {
  did = put_did leaves name bytes result s s1 k ends;
  shelf_calls = calls;
  sink_calls = within_none k.calls k.calls refl;
}

-- one write is a run of one action
write_did : (leaves : Leaving) (piece : List ℕ) (result : Result (Unit {0}) Halt) (s : ShelfTold) (k k1 : SinkTold) →
    WriteEnds piece result k.written k1.written → Did leaves (Write piece ∷ []) result (content_of s k) (content_of s k1)
write_did leaves piece (Ok _) s k k1 ends = record { files = refl; written = ends }
write_did leaves piece (Err halt.ShelfFailed) s k k1 ends = absurd ends
write_did leaves piece (Err halt.SinkFailed) s k k1 ends = inr (inl (record { files = refl; front = ends }))
write_did leaves piece (Err halt.NoMemory) s k k1 (inl same) = inl (record { files = refl; written = same })
write_did leaves piece (Err halt.NoMemory) s k k1 (inr front) = inr (inl (record { files = refl; front = front }))

pub ran_write : (leaves : Leaving) (piece : List ℕ) (result : Result (Unit {0}) Halt) (s : ShelfTold) (k k1 : SinkTold) →
    WriteEnds piece result k.written k1.written → CallsWithin 1 k.calls k1.calls → Ran leaves 0 (Write piece ∷ []) result s s k k1
ran_write leaves piece result s k k1 ends calls = record {
  did = write_did leaves piece result s k k1 ends;
  shelf_calls = within_none s.calls s.calls refl;
  sink_calls = calls;
}

-- a run of no action that halted, for which there may be any actions
pub ran_none : {A : Type 0} (leaves : Leaving) (fetches : ℕ) (actions : List Action) (h : Halt) (s s1 : ShelfTold) (k : SinkTold) →
    s1.files ≡ s.files → CallsWithin fetches s.calls s1.calls → Ran {A = A} leaves fetches actions (Err h) s s1 k k
ran_none leaves fetches actions h s s1 k files calls = record {
  did = halted_first leaves h actions (content_of s k) (content_of s1 k) (record { files = files; written = refl });
  shelf_calls = within_more fetches (fetches + put_count actions) s.calls s1.calls calls (omega arith);
  sink_calls = within_more 0 (write_count actions) k.calls k.calls (within_none k.calls k.calls refl) (omega arith);
}
