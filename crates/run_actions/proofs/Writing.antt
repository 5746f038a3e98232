-- A run that calls no shelf is a run whatever a shelf leaves of a refused put.
use Rattle.std.proofs.Common.{◌≡◌, ℕ, ◌≤◌, List, [], ◌∷◌, Result, Ok, Err, inl, inr, subst}
use Rattle.outer_shelf.specs.Outside.{ShelfTold, SinkTold}
use Rattle.run_actions.specs.Actions.{Action, Put, Write, Content, act, content_of}
use Rattle.run_actions.specs.Runs.{CallsWithin, Leaving, LeftBy, HaltedIn, Did, HadReason, Ran, WriteEnds, leaves_nothing}
use Rattle.run_actions.specs.declared.halt.Halt.{Halt}
use Rattle.run_actions.specs.declared.halt.Halt.TheVariants as halt
use Rattle.run_actions.proofs.Ends.{ran_then, ran_write, reason_then}

left_more : (leaves : Leaving) (h : Halt) (action : Action) (before now : Content) → LeftBy leaves_nothing h action before now → LeftBy leaves h action before now
left_more leaves halt.ShelfFailed (Put name bytes) before now left = absurd left.left
left_more leaves halt.ShelfFailed (Write piece) before now left = left
left_more leaves halt.SinkFailed (Put name bytes) before now left = left
left_more leaves halt.SinkFailed (Write piece) before now left = left
left_more leaves halt.NoMemory (Put name bytes) before now left = absurd left.left
left_more leaves halt.NoMemory (Write piece) before now left = left

halted_more : (leaves : Leaving) (h : Halt) (actions : List Action) (before now : Content) → HaltedIn leaves_nothing h actions before now → HaltedIn leaves h actions before now
halted_more leaves h [] before now halted = halted
halted_more leaves h (action ∷ actions) before now (inl same) = inl same
halted_more leaves h (action ∷ actions) before now (inr (inl left)) = inr (inl (left_more leaves h action before now left))
halted_more leaves h (action ∷ actions) before now (inr (inr later)) = inr (inr (halted_more leaves h actions (act action before) now later))

did_more : {A : Type 0} (leaves : Leaving) (actions : List Action) (result : Result A Halt) (before now : Content) → Did leaves_nothing actions result before now → Did leaves actions result before now
did_more leaves actions (Ok x) before now did = did
did_more leaves actions (Err h) before now did = halted_more leaves h actions before now did

pub ran_more : {A : Type 0} (leaves : Leaving) (fetches : ℕ) (actions : List Action) (result : Result A Halt) (s s1 : ShelfTold) (k k1 : SinkTold) →
    Ran leaves_nothing fetches actions result s s1 k k1 → Ran leaves fetches actions result s s1 k k1
ran_more leaves fetches actions result s s1 k k1 ran = record {
  did = did_more leaves actions result (content_of s k) (content_of s1 k1) ran.did;
  shelf_calls = ran.shelf_calls;
  sink_calls = ran.sink_calls;
}

-- a write that was done, and what was done after it
pub write_and : (first : List ℕ) (rest : List Action) (bytes : List ℕ) (result : Result (Unit {0}) Halt) (s : ShelfTold) (k k1 k2 : SinkTold) →
    bytes ≡ first → WriteEnds bytes (Ok tt) k.written k1.written → CallsWithin 1 k.calls k1.calls → Ran leaves_nothing 0 rest result s s k1 k2 → Ran leaves_nothing 0 (Write first ∷ rest) result s s k k2
write_and first rest bytes result s k k1 k2 is ends calls ran =
    let Done : List ℕ → Type 0 = λ b. Ran {A = Unit {0}} leaves_nothing 0 (Write b ∷ []) (Ok tt) s s k k1 in
    let done : Done first = subst Done is (ran_write leaves_nothing bytes (Ok tt) s k k1 ends calls) in
    ran_then {A = Unit {0}} leaves_nothing 0 (Write first ∷ []) rest tt result s s s k k1 k2 done ran

-- the reason of a halt after a call of the shelf or the sink that was done
pub reason_after : (result : Result (Unit {0}) Halt) (s s1 s2 : ShelfTold) (k k1 k2 : SinkTold) → s.faults ≤ s1.faults → k.faults ≤ k1.faults →
    HadReason result s1 s2 k1 k2 → HadReason result s s2 k k2
reason_after result s s1 s2 k k1 k2 shelf_stays sink_stays reason =
    let done : HadReason {A = Unit {0}} (Ok tt) s s1 k k1 = record { reason = tt; shelf_stays = shelf_stays; sink_stays = sink_stays } in
    reason_then {A = Unit {0}} tt result s s1 s2 k k1 k2 done reason
