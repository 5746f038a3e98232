-- What a contract sees of a play between two steps.
use Rattle.std.specs.Prelude.{◌≡◌, ◌+◌, ◌≤◌, Bool, true, false, length}
use Rattle.plan_model.specs.declared.events.Event.{Event}
use Rattle.plan_model.specs.declared.events.Event.TheVariants.{Move, Claim, Finish, Publish, Begin, End}
use Rattle.clip_script.specs.declared.step.Step.{Step}
use Rattle.clip_desk.specs.Plays.{Scene, after_step}
use Rattle.clip_runs.specs.declared.play.Stage.{Stage}

-- the scene of a play
abbrev pub scene_of : Stage → Scene
scene_of stage = record { state = stage.desk.plan.state; view = stage.view }

-- the event is the end of a frame
abbrev pub is_end : Event → Bool
is_end (Move x y a) = false
is_end Claim = false
is_end Finish = false
is_end (Publish level) = false
is_end Begin = false
is_end End = true

-- a step was taken: the scene is the one after it, and there are as many levels, and at most one more move and one more
-- frame
pub record HasTaken (step : Step) (old new : Stage) : Type 0 where
  pub scene : scene_of new ≡ after_step (scene_of old) step
  pub land : new.desk.land ≡ old.desk.land
  pub levels : length new.desk.plan.state.levels ≡ length old.desk.plan.state.levels
  pub moves : new.desk.plan.moves ≤ old.desk.plan.moves + 1
  pub begun : new.desk.plan.state.begun ≤ old.desk.plan.state.begun + 1
