-- A book with the jobs of its passes, filled.
use Rattle.std.specs.Prelude.{◌≡◌, ℕ, ◌+◌, ◌<◌, ◌≤◌, List, length, slice_index_or, Option, None, is_some, IsSomeAnd, IsTrue}
use Rattle.plan_model.specs.States.{pass_at, job_of}
use Rattle.plan_model.specs.declared.events.Event.{Event}
use Rattle.plan_model.specs.declared.events.Answer.{Answer}
use Rattle.plan_model.specs.Steps.{step}
use Rattle.book_plan.specs.Books.{adds, Does as Plans}
use Rattle.clip_book.specs.Books.{BookView, IsFilledOf}
use Rattle.clip_book.specs.Jobs.{FilledView}

-- each pass that has a job of the book has it among these, filled
pub record HasJobs (book : BookView) (jobs : List (Option FilledView)) : Type 0 where
  pub many : length jobs ≡ 16
  pub filled : (p : ℕ) → p < 16 → IsTrue (is_some (job_of (pass_at book.plan.state p))) →
      IsSomeAnd (slice_index_or jobs p None) (IsFilledOf book p)

-- an event of pass p is answered, and changes the state of the plan, as the definition's step says; the terrain stays
pub record Takes (p : ℕ) (event : Event) (answer : Answer) (old new : BookView) : Type 0 where
  pub plan : Plans p event answer old.plan new.plan
  pub land : new.land ≡ old.land

-- the same, whatever was answered
pub record Goes (p : ℕ) (event : Event) (old new : BookView) : Type 0 where
  pub state : new.plan.state ≡ (step old.plan.state p event).state
  pub moves : new.plan.moves ≡ old.plan.moves + adds event
  pub land : new.land ≡ old.land

-- the terrain, K and the numbers of moves, of levels and of passes stay, and no frame is begun
pub record Stays (old new : BookView) : Type 0 where
  pub land : new.land ≡ old.land
  pub size : new.plan.state.k ≡ old.plan.state.k
  pub moves : new.plan.moves ≡ old.plan.moves
  pub levels : length new.plan.state.levels ≡ length old.plan.state.levels
  pub passes : length new.plan.state.passes ≡ length old.plan.state.passes
  pub begun : new.plan.state.begun ≤ old.plan.state.begun
