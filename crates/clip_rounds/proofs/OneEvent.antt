-- One event of a flight: what was written of it is what a play of it does.
use Rattle.std.proofs.Common.{◌≡◌, ℕ, ◌≤◌, List, [], ◌∷◌, length, append-nil, Option, Some, is_some, Result, Ok, Err, refl, ap, sym, ◌∙◌, subst, arith}
use Rattle.std.specs.Prelude.{OnOk}
use mathlib.Core.Path.{ap₂}
use Rattle.outer_shelf.specs.Counts.{Rose}
use Rattle.outer_shelf.specs.Outside.{ShelfTold, SinkTold}
use Rattle.terrain_model.specs.Terrain.{Terrain}
use Rattle.mesh_model.specs.Mesh.{MeshLists}
use Rattle.plan_model.specs.States.{State, OpenFrame}
use Rattle.plan_model.specs.Steps.{step}
use Rattle.plan_model.specs.Histories.{then_step}
use Rattle.plan_model.specs.Rounds.{is_job}
use Rattle.plan_model.specs.declared.events.Event.{Event}
use Rattle.plan_model.specs.declared.events.Answer.{Answer}
use Rattle.clip_script.specs.Texts.{log_line}
use Rattle.clip_book.specs.Answers.{said_of_claim}
use Rattle.clip_book.specs.Books.{BookView, Does, GivesJobOf}
use Rattle.clip_book.specs.declared.answers.Claimed.{Claimed}
use Rattle.clip_book.specs.declared.answers.Claimed.TheVariants as C
use Rattle.run_actions.specs.Actions.{Action, Put, Write}
use Rattle.run_actions.specs.Runs.{CallsWithin, HadReason, Leaving, OnHalt, Ran, WriteEnds}
use Rattle.run_actions.specs.declared.halt.Halt.{Halt}
use Rattle.run_actions.specs.declared.halt.Halt.TheVariants as halt
use Rattle.run_actions.proofs.Ends.{ran_write}
use Rattle.clip_desk.specs.Desks.{Goes}
use Rattle.clip_desk.specs.Frames.{frame_name, mesh_of, whole_text_of}
use Rattle.clip_desk.specs.Lines.{mesh_line}
use Rattle.clip_desk.specs.Plays.{end_actions, event_actions}
use Rattle.clip_rounds.proofs.Flown.{always}
use Rattle.clip_rounds.specs.Claims.{job_in}
use Rattle.clip_rounds.specs.Parts.{Flew, Place, one}
use Rattle.clip_rounds.specs.Rounds.{IsClaimOf}
use Rattle.clip_rounds.specs.Tallies.{with_event, with_frame, with_mesh}
use Rattle.clip_rounds.specs.declared.tally.Tally.{Tally}

abbrev place_at : State → Tally → Place
place_at st tally = record { state = st; tally = tally }

-- two places of one state and the same numbers
pub same_place : (a b : State) (t u : Tally) → a ≡ b → t ≡ u → (let p : Place = record { state = a; tally = t } in p) ≡ (let q : Place = record { state = b; tally = u } in q)
same_place a b t u e f = ap₂ place_at e f

sink_reason : (u : Result (Unit {0}) Halt) (P Q : Type 0) → OnHalt u ⊥ Q → OnHalt u P Q
sink_reason (Ok x) P Q h = tt
sink_reason (Err halt.ShelfFailed) P Q h = absurd h
sink_reason (Err halt.SinkFailed) P Q h = h
sink_reason (Err halt.NoMemory) P Q h = tt

module _ (leaves : Leaving) (terrain : Terrain) (name : List ℕ) (p : ℕ) (event : Event) (old new : Place) where
  -- an event whose actions were done
  pub flew_one : {A : Type 0} (r : Result A Halt) (s s' : ShelfTold) (k k' : SinkTold) → Ran leaves 0 (event_actions terrain name old.state p event) r s s' k k' → HadReason r s s' k k' →
      OnOk r (new ≡ record { state = (step old.state p event).state; tally = with_event terrain old.state p event old.tally }) → Flew leaves terrain name (one p event) r old new s s' k k'
  unfolding then_step
  flew_one r s s' k k' ran reason leads = record {
    ran = subst (λ (actions : List Action). Ran leaves 0 actions r s s' k k') (sym (append-nil (event_actions terrain name old.state p event))) ran;
    reason = reason;
    leads = leads;
  }

  -- an event of which a line is written alone
  pub flew_told : (answer : Answer) (u : Result (Unit {0}) Halt) (s : ShelfTold) (k k' : SinkTold) → event_actions terrain name old.state p event ≡ Write (log_line p event (step old.state p event).answer) ∷ [] →
      answer ≡ (step old.state p event).answer → WriteEnds (log_line p event answer) u k.written k'.written → CallsWithin 1 k.calls k'.calls →
      OnHalt u ⊥ (Rose k.faults k'.faults) → k.faults ≤ k'.faults → new ≡ record { state = (step old.state p event).state; tally = with_event terrain old.state p event old.tally } →
      Flew leaves terrain name (one p event) u old new s s k k'
  flew_told answer u s k k' acts said ends calls reason stays leads =
      flew_one u s s k k'
      (subst (λ (actions : List Action). Ran leaves 0 actions u s s k k') (sym acts)
      (ran_write leaves (log_line p event (step old.state p event).answer) u s k k' (subst (λ (it : Answer). WriteEnds (log_line p event it) u k.written k'.written) said ends) calls))
      (record { reason = sink_reason u (Rose s.faults s.faults) (Rose k.faults k'.faults) reason; shelf_stays = omega arith; sink_stays = stays })
      (always u leads)

-- ---- claims
pub claim_of : (book : BookView) (p : ℕ) (claimed : Claimed) → GivesJobOf book p claimed → IsClaimOf book p (job_in claimed)
claim_of book p (C.Job job) h = h
claim_of book p C.Idle h = tt
claim_of book p (C.Ripe level) h = tt
claim_of book p (C.Busy level tile frame) h = tt
claim_of book p (C.Held level tile pass) h = tt
claim_of book p C.HasWork h = tt

pub job_if_given : (claimed : Claimed) → is_some (job_in claimed) ≡ is_job (said_of_claim claimed)
job_if_given (C.Job job) = refl
job_if_given C.Idle = refl
job_if_given (C.Ripe level) = refl
job_if_given (C.Busy level tile frame) = refl
job_if_given (C.Held level tile pass) = refl
job_if_given C.HasWork = refl

-- ---- the end of a frame
-- what is put and written for the frame of a pass
pub ended_is : (terrain : Terrain) (name : List ℕ) (k p n : ℕ) (frame : OpenFrame) (made : MeshLists) (text line : List ℕ) (o : Option OpenFrame) → o ≡ Some frame → n ≡ frame.number →
    made ≡ mesh_of terrain k frame → text ≡ whole_text_of frame made → line ≡ mesh_line p n made →
    (Put (frame_name name n) text ∷ Write line ∷ []) ≡ end_actions terrain name k p o
ended_is terrain name k p n frame made text line o is number mesh t l =
    ap (λ (it : List ℕ). Put (frame_name name n) it ∷ Write line ∷ []) t
    ∙ ap (λ (it : List ℕ). Put (frame_name name n) (whole_text_of frame made) ∷ Write it ∷ []) l
    ∙ ap (λ (m : ℕ). Put (frame_name name m) (whole_text_of frame made) ∷ Write (mesh_line p m made) ∷ []) number
    ∙ ap (λ (it : MeshLists). Put (frame_name name frame.number) (whole_text_of frame it) ∷ Write (mesh_line p frame.number it) ∷ []) mesh
    ∙ ap (end_actions terrain name k p) (sym is)

-- and the numbers with it
pub tally_is : (terrain : Terrain) (k : ℕ) (frame : OpenFrame) (made : MeshLists) (text : List ℕ) (n : ℕ) (tally next : Tally) (o : Option OpenFrame) → o ≡ Some frame →
    made ≡ mesh_of terrain k frame → text ≡ whole_text_of frame made → n ≡ length text → next ≡ with_mesh tally made n → next ≡ with_frame terrain k tally o
tally_is terrain k frame made text n tally next o is mesh t many e =
    e ∙ ap (with_mesh tally made) (many ∙ ap length t)
    ∙ ap (λ (it : MeshLists). with_mesh tally it (length (whole_text_of frame it))) mesh
    ∙ ap (with_frame terrain k tally) (sym is)

-- ---- a book after an event
pub told_does : (p : ℕ) (event : Event) (answer : Answer) (old new : BookView) → Does p event answer old new → Does p event (step old.plan.state p event).answer old new
told_does p event answer old new does = record {
  plan = record { state = does.plan.state; answered = refl; moves = does.plan.moves };
  land = does.land;
  others = does.others;
}

pub told_goes : (p : ℕ) (event : Event) (answer : Answer) (old new : BookView) → Does p event answer old new → Goes p event old new
told_goes p event answer old new does = record { state = does.plan.state; moves = does.plan.moves; land = does.land }
