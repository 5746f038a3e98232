-- What was flown of some parts, put together.
use Rattle.std.proofs.Common.{◌≡◌, ℕ, List, Result, Ok, Err, refl, ap, sym, ◌∙◌, subst, arith}
use Rattle.std.specs.Prelude.{OnOk}
use Rattle.outer_shelf.specs.Counts.{Rose}
use Rattle.outer_shelf.specs.Outside.{ShelfTold, SinkTold}
use Rattle.terrain_model.specs.Terrain.{Terrain}
use Rattle.plan_model.specs.States.{State}
use Rattle.plan_model.specs.Histories.{Run, run_from}
use Rattle.run_actions.specs.Actions.{Action}
use Rattle.run_actions.specs.Runs.{Leaving, OnHalt, Ran, leaves_nothing}
use Rattle.run_actions.specs.declared.halt.Halt.{Halt}
use Rattle.run_actions.specs.declared.halt.Halt.TheVariants as halt
use Rattle.run_actions.proofs.Ends.{ran_halted, ran_none, ran_then, reason_then, within_none}
use Rattle.terrain_store.specs.Shapes.{Land}
use Rattle.run_actions.proofs.Writing.{ran_more}
use Rattle.clip_rounds.specs.Parts.{Flew, Part, Place, after_part, part_actions}
use Rattle.clip_rounds.proofs.Parts.{IsPart, actions_then, leads_then}

-- two results are both done, or halted alike
abbrev pub EndAlike : {A B : Type 0} → Result A Halt → Result B Halt → Type 0
EndAlike (Ok x) (Ok y) = Unit {0}
EndAlike (Ok x) (Err h) = ⊥
EndAlike (Err h) (Ok y) = ⊥
EndAlike (Err h) (Err h') = h ≡ h'

halt_as : (A B : Type 0) (h : Halt) (P Q : Type 0) → OnHalt {A = A} (Err h) P Q → OnHalt {A = B} (Err h) P Q
halt_as A B halt.ShelfFailed P Q x = x
halt_as A B halt.SinkFailed P Q x = x
halt_as A B halt.NoMemory P Q x = x

module _ (leaves : Leaving) (terrain : Terrain) (name : List ℕ) where
  halted_as : {A B : Type 0} (part : Part) (h : Halt) (old new to : Place) (s s' : ShelfTold) (k k' : SinkTold) →
      Flew {A = A} leaves terrain name part (Err h) old new s s' k k' → Flew {A = B} leaves terrain name part (Err h) old to s s' k k'
  halted_as {A} {B} part h old new to s s' k k' f = record {
    ran = record { did = f.ran.did; shelf_calls = f.ran.shelf_calls; sink_calls = f.ran.sink_calls };
    reason = record { reason = halt_as A B h (Rose s.faults s'.faults) (Rose k.faults k'.faults) f.reason.reason; shelf_stays = f.reason.shelf_stays; sink_stays = f.reason.sink_stays };
    leads = tt;
  }

  -- a part that was flown with one result was flown with a result that ends alike
  pub flew_as : {A B : Type 0} (part : Part) (r : Result A Halt) (q : Result B Halt) (old new : Place) (s s' : ShelfTold) (k k' : SinkTold) → EndAlike r q →
      Flew leaves terrain name part r old new s s' k k' → Flew leaves terrain name part q old new s s' k k'
  flew_as part (Ok x) (Ok y) old new s s' k k' e f = record {
    ran = record { did = f.ran.did; shelf_calls = f.ran.shelf_calls; sink_calls = f.ran.sink_calls };
    reason = record { reason = tt; shelf_stays = f.reason.shelf_stays; sink_stays = f.reason.sink_stays };
    leads = f.leads;
  }
  flew_as part (Ok x) (Err h) old new s s' k k' e f = absurd e
  flew_as part (Err h) (Ok y) old new s s' k k' e f = absurd e
  flew_as {A} {B} part (Err h) (Err h') old new s s' k k' e f =
      subst (λ (it : Halt). Flew {A = B} leaves terrain name part (Err it) old new s s' k k') e (halted_as {A = A} {B = B} part h old new new s s' k k' f)

  -- the same part in other words
  pub flew_same : {A : Type 0} (part other : Part) (r : Result A Halt) (old new : Place) (s s' : ShelfTold) (k k' : SinkTold) → other (run_from old.state) ≡ part (run_from old.state) →
      Flew leaves terrain name part r old new s s' k k' → Flew leaves terrain name other r old new s s' k k'
  flew_same part other r old new s s' k k' is f = record {
    ran = subst (λ (run : Run). Ran leaves 0 (part_actions terrain name old.state (λ _. run)) r s s' k k') (sym is) f.ran;
    reason = f.reason;
    leads = subst (λ (run : Run). OnOk r (new ≡ after_part terrain (λ _. run) old)) (sym is) f.leads;
  }

  -- nothing was to be done
  pub flew_nothing : {A : Type 0} (part : Part) (x : A) (at : Place) (s : ShelfTold) (k : SinkTold) → part (run_from at.state) ≡ run_from at.state →
      Flew leaves terrain name part (Ok x) at at s s k k
  flew_nothing part x at s k is = flew_same (λ run. run) part (Ok x) at at s s k k is (record {
    ran = record { did = record { files = refl; written = refl }; shelf_calls = within_none s.calls s.calls refl; sink_calls = within_none k.calls k.calls refl };
    reason = record { reason = tt; shelf_stays = omega arith; sink_stays = omega arith };
    leads = refl;
  })

  -- memory was wanting before anything was done
  pub flew_wanting : {A : Type 0} (part : Part) (old new : Place) (s : ShelfTold) (k : SinkTold) → Flew {A = A} leaves terrain name part (Err halt.NoMemory) old new s s k k
  flew_wanting part old new s k = record {
    ran = ran_none leaves 0 (part_actions terrain name old.state part) halt.NoMemory s s k refl (within_none s.calls s.calls refl);
    reason = record { reason = tt; shelf_stays = omega arith; sink_stays = omega arith };
    leads = tt;
  }

  module _ (first second whole : Part) (a : IsPart first) (b : IsPart second) (old : Place) (is : whole (run_from old.state) ≡ second (first (run_from old.state))) where
    ok_then : {B : Type 0} (r : Result B Halt) (mid new : Place) → mid ≡ after_part terrain first old → OnOk r (new ≡ after_part terrain second mid) → OnOk r (new ≡ after_part terrain whole old)
    ok_then (Ok y) mid new e f = f ∙ ap (after_part terrain second) e ∙ sym (leads_then terrain first second whole a b old is)
    ok_then (Err h) mid new e f = f

    -- one part was flown, and then another
    pub flew_then : {A B : Type 0} (x : A) (r : Result B Halt) (mid new : Place) (s s1 s2 : ShelfTold) (k k1 k2 : SinkTold) →
        Flew leaves terrain name first (Ok x) old mid s s1 k k1 → Flew leaves terrain name second r mid new s1 s2 k1 k2 → Flew leaves terrain name whole r old new s s2 k k2
    flew_then x r mid new s s1 s2 k k1 k2 f g = record {
      ran = subst (λ (actions : List Action). Ran leaves 0 actions r s s2 k k2) (sym (actions_then terrain name first second whole a b old.state is))
          (ran_then leaves 0 (part_actions terrain name old.state first) (part_actions terrain name (first (run_from old.state)).state second) x r s s1 s2 k k1 k2 f.ran
          (subst (λ (st : State). Ran leaves 0 (part_actions terrain name st second) r s1 s2 k1 k2) (ap (λ (at : Place). at.state) f.leads) g.ran));
      reason = reason_then x r s s1 s2 k k1 k2 f.reason g.reason;
      leads = ok_then r mid new f.leads g.leads;
    }

    -- the first part halted
    pub flew_halted : {A B : Type 0} (h : Halt) (mid new : Place) (s s1 : ShelfTold) (k k1 : SinkTold) →
        Flew {A = A} leaves terrain name first (Err h) old mid s s1 k k1 → Flew {A = B} leaves terrain name whole (Err h) old new s s1 k k1
    flew_halted {A} {B} h mid new s s1 k k1 f = record {
      ran = subst (λ (actions : List Action). Ran {A = B} leaves 0 actions (Err h) s s1 k k1) (sym (actions_then terrain name first second whole a b old.state is))
          (ran_halted {A = A} {B = B} leaves 0 (part_actions terrain name old.state first) (part_actions terrain name (first (run_from old.state)).state second) h s s1 k k1 f.ran);
      reason = record { reason = halt_as A B h (Rose s.faults s1.faults) (Rose k.faults k1.faults) f.reason.reason; shelf_stays = f.reason.shelf_stays; sink_stays = f.reason.sink_stays };
      leads = tt;
    }

-- a part that calls no shelf, whatever a shelf leaves
pub flew_more : {A : Type 0} {terrain : Terrain} {name : List ℕ} {part : Part} {r : Result A Halt} {old new : Place} {s s' : ShelfTold} {k k' : SinkTold} (leaves : Leaving) →
    Flew leaves_nothing terrain name part r old new s s' k k' → Flew leaves terrain name part r old new s s' k k'
flew_more {A} {terrain} {name} {part} {r} {old} {new} {s} {s'} {k} {k'} leaves f = record {
  ran = ran_more leaves 0 (part_actions terrain name old.state part) r s s' k k' f.ran;
  reason = f.reason;
  leads = f.leads;
}

-- over a terrain that is the same
pub flew_over : {A : Type 0} (leaves : Leaving) (l l' : Land) (name : List ℕ) (part : Part) (r : Result A Halt) (old new : Place) (s s' : ShelfTold) (k k' : SinkTold) → l ≡ l' →
    Flew leaves l.terrain name part r old new s s' k k' → Flew leaves l'.terrain name part r old new s s' k k'
flew_over leaves l l' name part r old new s s' k k' e f = subst (λ (land : Land). Flew leaves land.terrain name part r old new s s' k k') e f

-- what follows for a run that was done
pub on_done : {A : Type 0} (r : Result A Halt) (P Q : Type 0) → (P → Q) → OnOk r P → OnOk r Q
on_done (Ok x) P Q f h = f h
on_done (Err h) P Q f k = k

pub always : {A P : Type 0} (r : Result A Halt) → P → OnOk r P
always (Ok x) h = h
always (Err h) k = tt

-- ---- parts one after another
-- a flight of a whole of which a part is left: whatever is then flown of it completes the whole
pub record IsOn (A : Type 0) (leaves : Leaving) (terrain : Terrain) (name : List ℕ) (whole left : Part) (start now : Place) (s0 s : ShelfTold) (k0 k : SinkTold) : Type 0 where
  pub go_on : (r : Result A Halt) (new : Place) (s' : ShelfTold) (k' : SinkTold) → Flew leaves terrain name left r now new s s' k k' → Flew leaves terrain name whole r start new s0 s' k0 k'

pub on_start : {A : Type 0} (leaves : Leaving) (terrain : Terrain) (name : List ℕ) (whole left : Part) (start : Place) (s : ShelfTold) (k : SinkTold) →
    whole (run_from start.state) ≡ left (run_from start.state) → IsOn A leaves terrain name whole left start start s s k k
on_start leaves terrain name whole left start s k is = record { go_on = λ r new s' k' f. flew_same leaves terrain name left whole r start new s s' k k' is f }

module _ {A : Type 0} (leaves : Leaving) (terrain : Terrain) (name : List ℕ) (whole left : Part) (start now : Place) (s0 s : ShelfTold) (k0 k : SinkTold)
    (on : IsOn A leaves terrain name whole left start now s0 s k0 k) where
  -- one part more was flown
  pub on_more : {B : Type 0} (part rest : Part) → IsPart part → IsPart rest → left (run_from now.state) ≡ rest (part (run_from now.state)) → (x : B) (next : Place) (s1 : ShelfTold) (k1 : SinkTold) →
      Flew leaves terrain name part (Ok x) now next s s1 k k1 → IsOn A leaves terrain name whole rest start next s0 s1 k0 k1
  on_more part rest a b is x next s1 k1 f = record {
    go_on = λ r new s' k' g. on.go_on r new s' k' (flew_then leaves terrain name part rest left a b now is x r next new s s1 s' k k1 k' f g);
  }

  -- the run halted in a part
  pub on_halt : {B : Type 0} (part rest : Part) → IsPart part → IsPart rest → left (run_from now.state) ≡ rest (part (run_from now.state)) → (h : Halt) (next new : Place) (s1 : ShelfTold) (k1 : SinkTold) →
      Flew {A = B} leaves terrain name part (Err h) now next s s1 k k1 → Flew {A = A} leaves terrain name whole (Err h) start new s0 s1 k0 k1
  on_halt {B} part rest a b is h next new s1 k1 f = on.go_on (Err h) new s1 k1 (flew_halted leaves terrain name part rest left a b now is h next new s s1 k k1 f)

  -- memory was wanting
  pub on_want : (new : Place) → Flew {A = A} leaves terrain name whole (Err halt.NoMemory) start new s0 s k0 k
  on_want new = on.go_on (Err halt.NoMemory) new s k (flew_wanting leaves terrain name left now new s k)

  -- nothing is left
  pub on_end : (x : A) → left (run_from now.state) ≡ run_from now.state → Flew leaves terrain name whole (Ok x) start now s0 s k0 k
  on_end x is = on.go_on (Ok x) now s k (flew_nothing leaves terrain name left x now s k is)
