-- What a pass has after an event, where it had nothing before.
use Rattle.std.specs.Prelude.{◌≡◌, ℕ, ◌<◌, Some}
use Rattle.plan_model.specs.States.{State, Pass, frame_of}
use Rattle.plan_model.specs.Steps.{next_frame}
use Rattle.plan_model.specs.declared.events.Answer.{Answer}
use Rattle.plan_model.specs.declared.events.Answer.TheVariants.{Job, Ripe, HasWork, Frame, NoFrame}
use Rattle.plan_model.specs.declared.events.Work.TheVariants.{Free}

-- of so many levels: where a claim of a pass that had nothing isn't answered by a job, the pass still has nothing, and
-- a ripe level is there
abbrev pub IsAfterClaim : ℕ → Pass → Answer → Type 0
IsAfterClaim levels part (Job level bx by cells plan) = Unit {0}
IsAfterClaim levels part (Ripe level) = (part ≡ Free) × (level < levels)
IsAfterClaim levels part HasWork = ⊥
IsAfterClaim levels part NoFrame = ⊥
IsAfterClaim levels part _ = part ≡ Free

-- where a beginning of such a pass in a state is answered by a frame, the pass has the state's next one, and else it
-- still has nothing
abbrev pub IsAfterBegin : State → Pass → Answer → Type 0
IsAfterBegin st part (Frame number) = frame_of part ≡ Some (next_frame st)
IsAfterBegin st part HasWork = ⊥
IsAfterBegin st part NoFrame = ⊥
IsAfterBegin st part _ = part ≡ Free
