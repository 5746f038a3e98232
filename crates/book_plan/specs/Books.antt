-- What a contract sees of a book's plan, and what an event does to it.
use Rattle.std.specs.Prelude.{◌≡◌, ℕ, ◌+◌, ◌^◌, ◌≤◌, length, Option, Some, None}
use Rattle.clip_regions.specs.declared.region.Region.{Region}
use Rattle.plan_model.specs.States.{State, level_at}
use Rattle.plan_model.specs.Steps.{step}
use Rattle.plan_model.specs.Claims.{strip_at, unfinished_pieces}
use Rattle.plan_model.specs.Sound.{IsReady}
use Rattle.plan_model.specs.declared.events.Event.{Event}
use Rattle.plan_model.specs.declared.events.Event.TheVariants.{Move, Claim, Finish, Publish, Begin, End}
use Rattle.plan_model.specs.declared.events.Answer.{Answer}
use Rattle.book_plan.specs.Desks.{Desk, state_of, HaveSlots}

-- the state of the plan, and how many moves there were
pub record PlanView : Type 0 where
  pub state : State
  pub moves : ℕ

-- how many moves an event adds
abbrev pub adds : Event → ℕ
adds (Move x y a) = 1
adds Claim = 0
adds Finish = 0
adds (Publish level) = 0
adds Begin = 0
adds End = 0

-- an event of pass p is answered, and changes the plan, as the definition's step says
pub record Does (p : ℕ) (event : Event) (answer : Answer) (old new : PlanView) : Type 0 where
  pub state : new.state ≡ (step old.state p event).state
  pub answered : (step old.state p event).answer ≡ answer
  pub moves : new.moves ≡ old.moves + adds event

-- what is true of the plan of every book: it is sound, each level's slots are those of its current strip, no plan
-- number is above the number of moves, and there are no more moves and frames than a book may have
pub record IsBook (d : Desk) (moves : ℕ) : Type 0 where
  pub sound : IsReady (state_of d)
  pub slots : HaveSlots d
  pub plans : (level : ℕ) → (level_at (state_of d) level).plan ≤ moves
  pub few_moves : moves ≤ 2 ^ 40
  pub few_frames : d.begun ≤ 2 ^ 40

-- how many pieces of a level's current strip aren't finished, where it has one
abbrev pub count_where : ℕ → Option Region → Option ℕ
count_where n None = None
count_where n (Some strip) = Some n

abbrev pub unfinished_on : State → ℕ → Option ℕ
unfinished_on st level = count_where (length (unfinished_pieces st level)) (strip_at st level)
