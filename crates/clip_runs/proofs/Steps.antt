-- The steps of a play, one after another.
use Rattle.std.proofs.Common.{◌≡◌, ℕ, ◌+◌, ◌<◌, ◌≤◌, true, false, List, [], ◌∷◌, ◌++◌, length, drop, get_or, Option, None, Result, Ok, Err, refl, ap, sym, ◌∙◌, subst, arith}
use Rattle.std.specs.Prelude.{OnOk}
use Rattle.std.proofs.lemmas.Bool.{true≢false}
use mathlib.Core.Path.{ap₂}
use Rattle.outer_shelf.specs.Outside.{ShelfTold, SinkTold}
use Rattle.terrain_model.specs.Terrain.{Terrain}
use Rattle.mesh_model.specs.declared.shapes.HalfSpace.{HalfSpace}
use Rattle.plan_model.specs.States.{State, OpenFrame, pass_at, frame_of}
use Rattle.plan_model.specs.Steps.{step, end_step, ended}
use Rattle.plan_model.specs.declared.events.Event.{Event}
use Rattle.plan_model.specs.declared.events.Event.TheVariants.{Move, Claim, Finish, Publish, Begin, End}
use Rattle.plan_holds.specs.Laws.{StepsGoOn}
use Rattle.book_plan.specs.Books.{adds}
use Rattle.book_plan.proofs.Plans.{opens, step_counts}
use Rattle.clip_script.specs.declared.step.Step.{Step}
use Rattle.clip_script.specs.declared.step.Step.TheVariants.{Book, EndSeen}
use Rattle.clip_script.specs.Texts.{log_line}
use Rattle.clip_book.specs.Books.{BookView}
use Rattle.run_actions.specs.Actions.{Write}
use Rattle.run_actions.specs.Runs.{HadReason, Leaving, Ran}
use Rattle.run_actions.specs.declared.halt.Halt.{Halt}
use Rattle.run_actions.proofs.Ends.{ran_halted, ran_then, reason_then, within_none}
use Rattle.clip_desk.specs.Desks.{Goes}
use Rattle.clip_desk.specs.Plays.{Scene, after_step, end_actions, event_actions, step_actions, steps_actions}
use Rattle.clip_runs.specs.Stages.{HasTaken, is_end, scene_of}
use Rattle.clip_runs.specs.declared.play.Stage.{Stage}

-- ---- what an event does, by whether it is an end
pub is_the_end : (event : Event) → is_end event ≡ true → event ≡ End
is_the_end (Move x y a) e = absurd (true≢false (sym e))
is_the_end Claim e = absurd (true≢false (sym e))
is_the_end Finish e = absurd (true≢false (sym e))
is_the_end (Publish level) e = absurd (true≢false (sym e))
is_the_end Begin e = absurd (true≢false (sym e))
is_the_end End e = refl

pub ends_event : (terrain : Terrain) (name : List ℕ) (st : State) (p : ℕ) (event : Event) → is_end event ≡ true →
    event_actions terrain name st p event ≡ end_actions terrain name st.k p (frame_of (pass_at st p))
ends_event terrain name st p event e = ap (event_actions terrain name st p) (is_the_end event e)

pub tells_event : (terrain : Terrain) (name : List ℕ) (st : State) (p : ℕ) (event : Event) → is_end event ≡ false →
    event_actions terrain name st p event ≡ Write (log_line p event (step st p event).answer) ∷ []
tells_event terrain name st p (Move x y a) e = refl
tells_event terrain name st p Claim e = refl
tells_event terrain name st p Finish e = refl
tells_event terrain name st p (Publish level) e = refl
tells_event terrain name st p Begin e = refl
tells_event terrain name st p End e = absurd (true≢false e)

-- the line of an end of a pass without a frame
pub no_frame_line : (terrain : Terrain) (name : List ℕ) (st : State) (p : ℕ) → frame_of (pass_at st p) ≡ None →
    (Write (log_line p End (step st p End).answer) ∷ []) ≡ end_actions terrain name st.k p (frame_of (pass_at st p))
unfolding end_step
no_frame_line terrain name st p none =
    ap (λ (o : Option OpenFrame). Write (log_line p End (ended st p o).answer) ∷ []) none ∙ ap (end_actions terrain name st.k p) (sym none)

-- ---- what a step leaves
few_adds : (event : Event) → adds event ≤ 1
few_adds (Move x y a) = omega arith
few_adds Claim = omega arith
few_adds Finish = omega arith
few_adds (Publish level) = omega arith
few_adds Begin = omega arith
few_adds End = omega arith

few_opens : (event : Event) → opens event ≤ 1
few_opens (Move x y a) = omega arith
few_opens Claim = omega arith
few_opens Finish = omega arith
few_opens (Publish level) = omega arith
few_opens Begin = omega arith
few_opens End = omega arith

-- the scenes with that state and that view are one
same_scene : (a b : State) (v w : List HalfSpace) → a ≡ b → v ≡ w → (let s : Scene = record { state = a; view = v } in s) ≡ (let t : Scene = record { state = b; view = w } in t)
same_scene a b v w e f = ap₂ (λ (st : State) (view : List HalfSpace). let s : Scene = record { state = st; view = view } in s) e f

module _ (go_on : StepsGoOn) (p : ℕ) (event : Event) (old new : BookView) (goes : Goes p event old new) where
  gone_levels : length new.plan.state.levels ≡ length old.plan.state.levels
  gone_levels = ap (λ (st : State). length st.levels) goes.state ∙ (go_on old.plan.state p event).levels

  gone_moves : new.plan.moves ≤ old.plan.moves + 1
  gone_moves = omega (arith, goes.moves, few_adds event)

  gone_begun : new.plan.state.begun ≤ old.plan.state.begun + 1
  gone_begun =
      let is : new.plan.state.begun ≡ (step old.plan.state p event).state.begun = ap (λ (st : State). st.begun) goes.state in
      omega (arith, is, step_counts old.plan.state p event, few_opens event)

pub book_taken : StepsGoOn → (p : ℕ) (event : Event) (old new : Stage) → Goes p event old.desk new.desk → new.view ≡ old.view → HasTaken (Book p event) old new
book_taken go_on p event old new goes view = record {
  scene = same_scene new.desk.plan.state (step old.desk.plan.state p event).state new.view old.view goes.state view;
  land = goes.land;
  levels = gone_levels go_on p event old.desk new.desk goes;
  moves = gone_moves go_on p event old.desk new.desk goes;
  begun = gone_begun go_on p event old.desk new.desk goes;
}

pub seen_taken : StepsGoOn → (p : ℕ) (old new : Stage) → Goes p End old.desk new.desk → new.view ≡ old.view → HasTaken (EndSeen p) old new
seen_taken go_on p old new goes view = record {
  scene = same_scene new.desk.plan.state (step old.desk.plan.state p End).state new.view old.view goes.state view;
  land = goes.land;
  levels = gone_levels go_on p End old.desk new.desk goes;
  moves = gone_moves go_on p End old.desk new.desk goes;
  begun = gone_begun go_on p End old.desk new.desk goes;
}

-- what follows where a run was done
pub done_both : {A B : Type 0} (r : Result A B) (P Q R : Type 0) → (P → Q → R) → OnOk r P → OnOk r Q → OnOk r R
done_both (Ok x) P Q R f h k = f h k
done_both (Err e) P Q R f h k = h

-- ---- steps one after another
-- a play whose steps below i were taken: whatever is then done of the others completes all of them
pub record IsOn (leaves : Leaving) (name : List ℕ) (steps : List Step) (start now : Stage) (i : ℕ) (s0 s : ShelfTold) (k0 k : SinkTold) : Type 0 where
  pub land : now.desk.land ≡ start.desk.land
  pub levels : length now.desk.plan.state.levels ≡ length start.desk.plan.state.levels
  pub moves : now.desk.plan.moves ≤ i
  pub begun : now.desk.plan.state.begun ≤ i
  pub reason : HadReason {A = Unit {0}} (Ok tt) s0 s k0 k
  pub go_on : (r : Result (Unit {0}) Halt) (s' : ShelfTold) (k' : SinkTold) →
      Ran leaves 0 (steps_actions start.desk.land.terrain name (scene_of now) (drop i steps)) r s s' k k' →
      Ran leaves 0 (steps_actions start.desk.land.terrain name (scene_of start) steps) r s0 s' k0 k'

-- no step was taken
pub on_start : (leaves : Leaving) (name : List ℕ) (steps : List Step) (start : Stage) (s : ShelfTold) (k : SinkTold) → start.desk.plan.moves ≡ 0 → start.desk.plan.state.begun ≡ 0 →
    IsOn leaves name steps start start 0 s s k k
on_start leaves name steps start s k moves begun = record {
  land = refl;
  levels = refl;
  moves = omega (arith, moves);
  begun = omega (arith, begun);
  reason = record { reason = tt; shelf_stays = omega arith; sink_stays = omega arith };
  go_on = λ r s' k' ran. ran;
}

module _ (leaves : Leaving) (name : List ℕ) (steps : List Step) (start now : Stage) (i : ℕ) (it : Step) (s0 s s1 : ShelfTold) (k0 k k1 : SinkTold)
    (on : IsOn leaves name steps start now i s0 s k0 k) (here : drop i steps ≡ it ∷ drop (i + 1) steps) where
  -- the actions of the steps that are left, this one first
  ahead : (scene : Scene) → steps_actions start.desk.land.terrain name scene (drop i steps)
      ≡ step_actions start.desk.land.terrain name scene it ++ steps_actions start.desk.land.terrain name (after_step scene it) (drop (i + 1) steps)
  ahead scene = ap (steps_actions start.desk.land.terrain name scene) here

  -- one step more was taken
  pub on_more : (next : Stage) → HasTaken it now next → Ran {A = Unit {0}} leaves 0 (step_actions now.desk.land.terrain name (scene_of now) it) (Ok tt) s s1 k k1 →
      HadReason {A = Unit {0}} (Ok tt) s s1 k k1 → IsOn leaves name steps start next (i + 1) s0 s1 k0 k1
  on_more next taken ran reason = record {
    land = taken.land ∙ on.land;
    levels = taken.levels ∙ on.levels;
    moves = omega (arith, taken.moves, on.moves);
    begun = omega (arith, taken.begun, on.begun);
    reason = reason_then {A = Unit {0}} tt (Ok tt) s0 s s1 k0 k k1 on.reason reason;
    go_on = λ r s' k' rest.
        let done : Ran {A = Unit {0}} leaves 0 (step_actions start.desk.land.terrain name (scene_of now) it) (Ok tt) s s1 k k1 = subst (λ l. Ran {A = Unit {0}} leaves 0 (step_actions l.terrain name (scene_of now) it) (Ok tt) s s1 k k1) on.land ran in
        let then' : Ran leaves 0 (steps_actions start.desk.land.terrain name (after_step (scene_of now) it) (drop (i + 1) steps)) r s1 s' k1 k' = subst (λ scene. Ran leaves 0 (steps_actions start.desk.land.terrain name scene (drop (i + 1) steps)) r s1 s' k1 k') taken.scene rest in
        on.go_on r s' k' (subst (λ actions. Ran leaves 0 actions r s s' k k') (sym (ahead (scene_of now)))
        (ran_then {A = Unit {0}} leaves 0 (step_actions start.desk.land.terrain name (scene_of now) it) (steps_actions start.desk.land.terrain name (after_step (scene_of now) it) (drop (i + 1) steps)) tt r s s1 s' k k1 k' done then'));
  }

  -- the run halted in a step
  pub on_halt : (h : Halt) → Ran {A = Unit {0}} leaves 0 (step_actions now.desk.land.terrain name (scene_of now) it) (Err h) s s1 k k1 →
      Ran {A = Unit {0}} leaves 0 (steps_actions start.desk.land.terrain name (scene_of start) steps) (Err h) s0 s1 k0 k1
  on_halt h ran =
      let here' : Ran {A = Unit {0}} leaves 0 (step_actions start.desk.land.terrain name (scene_of now) it) (Err h) s s1 k k1 = subst (λ l. Ran {A = Unit {0}} leaves 0 (step_actions l.terrain name (scene_of now) it) (Err h) s s1 k k1) on.land ran in
      on.go_on (Err h) s1 k1 (subst (λ actions. Ran {A = Unit {0}} leaves 0 actions (Err h) s s1 k k1) (sym (ahead (scene_of now)))
      (ran_halted {A = Unit {0}} {B = Unit {0}} leaves 0 (step_actions start.desk.land.terrain name (scene_of now) it) (steps_actions start.desk.land.terrain name (after_step (scene_of now) it) (drop (i + 1) steps)) h s s1 k k1 here'))

-- all steps were taken
pub on_end : (leaves : Leaving) (name : List ℕ) (steps : List Step) (start now : Stage) (i : ℕ) (s0 s : ShelfTold) (k0 k : SinkTold) →
    IsOn leaves name steps start now i s0 s k0 k → drop i steps ≡ [] → Ran {A = Unit {0}} leaves 0 (steps_actions start.desk.land.terrain name (scene_of start) steps) (Ok tt) s0 s k0 k
on_end leaves name steps start now i s0 s k0 k on none =
    let nothing : Ran {A = Unit {0}} leaves 0 [] (Ok tt) s s k k = record { did = record { files = refl; written = refl }; shelf_calls = within_none s.calls s.calls refl; sink_calls = within_none k.calls k.calls refl } in
    on.go_on (Ok tt) s k (subst (λ actions. Ran {A = Unit {0}} leaves 0 actions (Ok tt) s s k k) (sym (ap (steps_actions start.desk.land.terrain name (scene_of now)) none)) nothing)
