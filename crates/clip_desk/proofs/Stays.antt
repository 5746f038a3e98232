-- What stays of a book while no frame is begun and the viewer doesn't move.
use Rattle.std.proofs.Common.{◌≡◌, ℕ, length, refl, ap, ◌∙◌, arith}
use Rattle.plan_model.specs.States.{State}
use Rattle.plan_model.specs.Steps.{step}
use Rattle.plan_model.specs.declared.events.Event.{Event}
use Rattle.plan_model.specs.declared.events.Answer.{Answer}
use Rattle.plan_holds.specs.Laws.{StepsGoOn}
use Rattle.book_plan.specs.Books.{adds}
use Rattle.book_plan.proofs.Plans.{opens, step_counts}
use Rattle.clip_book.specs.Books.{BookView}
use Rattle.clip_desk.specs.Desks.{Stays, Takes}

pub stays_none : (book : BookView) → Stays book book
stays_none book = record { land = refl; size = refl; moves = refl; levels = refl; passes = refl; begun = omega arith }

pub stays_then : (a b c : BookView) → Stays a b → Stays b c → Stays a c
stays_then a b c h k = record {
  land = k.land ∙ h.land;
  size = k.size ∙ h.size;
  moves = k.moves ∙ h.moves;
  levels = k.levels ∙ h.levels;
  passes = k.passes ∙ h.passes;
  begun = omega (arith, h.begun, k.begun);
}

-- an event that begins no frame and is no move
pub event_stays : StepsGoOn → (p : ℕ) (event : Event) (answer : Answer) (old new : BookView) → adds event ≡ 0 → opens event ≡ 0 → Takes p event answer old new → Stays old new
event_stays go_on p event answer old new no_move no_frame takes =
    let begun : new.plan.state.begun ≡ (step old.plan.state p event).state.begun = ap (λ (st : State). st.begun) takes.plan.state in
    record {
      land = takes.land;
      size = ap (λ (st : State). st.k) takes.plan.state ∙ (go_on old.plan.state p event).size;
      moves = omega (arith, takes.plan.moves, no_move);
      levels = ap (λ (st : State). length st.levels) takes.plan.state ∙ (go_on old.plan.state p event).levels;
      passes = ap (λ (st : State). length st.passes) takes.plan.state ∙ (go_on old.plan.state p event).passes;
      begun = omega (arith, begun, step_counts old.plan.state p event, no_frame);
    }
