-- The frames of a swarm, put one after another.
use Rattle.std.proofs.Common.{◌≡◌, ℕ, ◌+◌, ◌≤◌, List, [], ◌∷◌, ◌++◌, drop, Result, Ok, Err, inl, inr, refl, ap, sym, subst, arith}
use Rattle.outer_shelf.specs.Counts.{Rose}
use Rattle.outer_shelf.specs.Outside.{ShelfTold, SinkTold}
use Rattle.run_actions.specs.Actions.{Action}
use Rattle.run_actions.specs.Runs.{Leaving, OnHalt, Ran, CallsWithin, PutEnds}
use Rattle.run_actions.specs.declared.halt.Halt.{Halt}
use Rattle.run_actions.specs.declared.halt.Halt.TheVariants as halt
use Rattle.run_actions.proofs.Ends.{ran_halted, ran_none, ran_put, ran_then, within_none}
use Rattle.swarm_passes.specs.Frames.{FrameView}
use Rattle.clip_desk.specs.Frames.{frame_name}
use Rattle.swarm_runs.specs.Products.{frame_put, frame_puts}
use Rattle.swarm_runs.specs.Puts.{HasPut}

-- one file under a frame's name
pub put_one : (leaves : Leaving) (name file bytes : List ℕ) (frame : FrameView) (r : Result (Unit {0}) Halt) (s s1 : ShelfTold) →
    file ≡ frame_name name frame.number → bytes ≡ frame.bytes → PutEnds leaves file bytes r s.files s1.files → CallsWithin 1 s.calls s1.calls →
    OnHalt r (Rose s.faults s1.faults) ⊥ → s.faults ≤ s1.faults → HasPut leaves (frame_put name frame ∷ []) r s s1
put_one leaves name file bytes frame r s s1 named same ends calls reason stay =
    let named' = λ (n : List ℕ). PutEnds leaves n bytes r s.files s1.files in
    let same' = λ (b : List ℕ). PutEnds leaves (frame_name name frame.number) b r s.files s1.files in
    let here : PutEnds leaves (frame_name name frame.number) frame.bytes r s.files s1.files = subst same' same (subst named' named ends) in
    record { ran = λ sink. ran_put leaves (frame_name name frame.number) frame.bytes r s s1 sink here calls; reason = reason; faults_stay = stay }

-- nothing was put, for want of memory
pub put_none : (leaves : Leaving) (actions : List Action) (s : ShelfTold) → HasPut leaves actions (Err halt.NoMemory) s s
put_none leaves actions s = record {
  ran = λ sink. ran_none leaves 0 actions halt.NoMemory s s sink refl (within_none s.calls s.calls refl);
  reason = tt;
  faults_stay = omega arith;
}

-- a reason that lies later is a reason of the whole
later_reason : (h : Halt) (a b c : ℕ) → a ≤ b → OnHalt {A = Unit {0}} (Err h) (Rose b c) ⊥ → OnHalt {A = Unit {0}} (Err h) (Rose a c) ⊥
later_reason halt.ShelfFailed a b c le (inl less) = inl (omega arith)
later_reason halt.ShelfFailed a b c le (inr last) = inr last
later_reason halt.SinkFailed a b c le rose = rose
later_reason halt.NoMemory a b c le rose = tt

-- the frames below i were put: whatever is then done of the others completes all of them
pub record IsOn (leaves : Leaving) (name : List ℕ) (frames : List FrameView) (i : ℕ) (s0 s : ShelfTold) : Type 0 where
  pub stay : s0.faults ≤ s.faults
  pub go_on : (r : Result (Unit {0}) Halt) (s' : ShelfTold) (k : SinkTold) →
      Ran leaves 0 (frame_puts name (drop i frames)) r s s' k k → Ran leaves 0 (frame_puts name frames) r s0 s' k k

-- none was put
pub on_start : (leaves : Leaving) (name : List ℕ) (frames : List FrameView) (s : ShelfTold) → IsOn leaves name frames 0 s s
on_start leaves name frames s = record { stay = omega arith; go_on = λ r s' k ran. ran }

module _ (leaves : Leaving) (name : List ℕ) (frames : List FrameView) (i : ℕ) (it : FrameView) (s0 s s1 : ShelfTold)
    (on : IsOn leaves name frames i s0 s) (here : drop i frames ≡ it ∷ drop (i + 1) frames) where
  ahead : frame_puts name (drop i frames) ≡ (frame_put name it ∷ []) ++ frame_puts name (drop (i + 1) frames)
  ahead = ap (frame_puts name) here

  -- one frame more was put
  pub on_more : HasPut leaves (frame_put name it ∷ []) (Ok tt) s s1 → IsOn leaves name frames (i + 1) s0 s1
  on_more put = record {
    stay = let a = on.stay in let b = put.faults_stay in omega (arith, a, b);
    go_on = λ r s' k rest.
        on.go_on r s' k (subst (λ (actions : List Action). Ran leaves 0 actions r s s' k k) (sym ahead)
        (ran_then {A = Unit {0}} leaves 0 (frame_put name it ∷ []) (frame_puts name (drop (i + 1) frames)) tt r s s1 s' k k k (put.ran k) rest));
  }

  -- the run halted at a frame
  pub on_halt : (h : Halt) → HasPut leaves (frame_put name it ∷ []) (Err h) s s1 → HasPut leaves (frame_puts name frames) (Err h) s0 s1
  on_halt h put = record {
    ran = λ k.
        on.go_on (Err h) s1 k (subst (λ (actions : List Action). Ran {A = Unit {0}} leaves 0 actions (Err h) s s1 k k) (sym ahead)
        (ran_halted {A = Unit {0}} {B = Unit {0}} leaves 0 (frame_put name it ∷ []) (frame_puts name (drop (i + 1) frames)) h s s1 k k (put.ran k)));
    reason = later_reason h s0.faults s.faults s1.faults on.stay put.reason;
    faults_stay = let a = on.stay in let b = put.faults_stay in omega (arith, a, b);
  }

-- all frames were put
pub on_end : (leaves : Leaving) (name : List ℕ) (frames : List FrameView) (i : ℕ) (s0 s : ShelfTold) → IsOn leaves name frames i s0 s → drop i frames ≡ [] →
    HasPut leaves (frame_puts name frames) (Ok tt) s0 s
on_end leaves name frames i s0 s on none = record {
  ran = λ k.
      let nothing : Ran {A = Unit {0}} leaves 0 [] (Ok tt) s s k k = record { did = record { files = refl; written = refl }; shelf_calls = within_none s.calls s.calls refl; sink_calls = within_none k.calls k.calls refl } in
      on.go_on (Ok tt) s k (subst (λ (actions : List Action). Ran {A = Unit {0}} leaves 0 actions (Ok tt) s s k k) (sym (ap (frame_puts name) none)) nothing);
  reason = tt;
  faults_stay = on.stay;
}
