-- What is done over a terrain once the words and the files have come to a course.
use Rattle.std.specs.Prelude.{◌≡◌, ◌≤◌, ℕ, ℤ, List, All, length}
use Rattle.plan_model.specs.Limits.{IsSize, IsViewed}
use Rattle.clip_script.specs.Ranges.{AreSizes, IsFlown, IsStep}
use Rattle.clip_script.specs.Scripts.{Fly as FlyLines, Play as PlayLines, fly_view, play_view}
use Rattle.terrain_store.specs.Shapes.{Land}
use Rattle.run_actions.specs.Actions.{Action}
use Rattle.clip_desk.specs.Plays.{play_actions}
use Rattle.clip_flights.specs.Flights.{demo_actions, fly_actions}
use Rattle.clip_runs.specs.WholeFrame.{frame_actions}
use Rattle.clip_runs.specs.declared.course.Course as course
use Rattle.clip_runs.specs.declared.course.Course.TheVariants as variant

-- a course: one frame of whole windows, for a size and a viewer, the steps of a play script, a flight with so many
-- workers, or a demo, which is told by the number of its seed
pub data Course : Type 0 where
  Frame : ℕ → ℤ → ℤ → Course
  Play : PlayLines → Course
  Fly : FlyLines → ℕ → Course
  Demo : ℕ → FlyLines → Course

-- the actions of a course over a terrain with so many levels, under a name
abbrev pub course_actions : Course → Land → List ℕ → List Action
course_actions (Frame k x y) land name = frame_actions k land.levels x y name land.terrain
course_actions (Play play) land name = play_actions land.terrain play.k play.levels play.steps name
course_actions (Fly fly workers) land name = fly_actions land.terrain fly.k fly.levels workers fly.lines name
course_actions (Demo seed fly) land name = demo_actions land.terrain fly.k fly.levels fly.lines seed

-- the size and the viewer of a frame are in range
pub record IsFrameInRange (k : ℕ) (x y : ℤ) : Type 0 where
  pub size : IsSize k
  pub column : IsViewed x
  pub row : IsViewed y

-- the numbers of a play are in range, it has few steps, and its levels are those of the terrain
pub record IsPlayInRange (levels : ℕ) (play : PlayLines) : Type 0 where
  pub sizes : AreSizes play.k play.levels
  pub steps : All (IsStep play.levels) play.steps
  pub few : length play.steps ≤ 1048577
  pub same_levels : play.levels ≡ levels

-- the numbers of a flight are in range, it has few lines, and its levels are those of the terrain
pub record IsFlyInRange (levels : ℕ) (fly : FlyLines) : Type 0 where
  pub sizes : AreSizes fly.k fly.levels
  pub lines : All IsFlown fly.lines
  pub few : length fly.lines ≤ 1048577
  pub same_levels : fly.levels ≡ levels

-- there are from 1 to 15 workers
pub record AreWorkers (workers : ℕ) : Type 0 where
  pub some : 1 ≤ workers
  pub few : workers ≤ 15

-- the numbers of a course are in range for a terrain with so many levels
abbrev pub IsCourseInRange : ℕ → Course → Type 0
IsCourseInRange levels (Frame k x y) = IsFrameInRange k x y
IsCourseInRange levels (Play play) = IsPlayInRange levels play
IsCourseInRange levels (Fly fly workers) = IsFlyInRange levels fly × AreWorkers workers
IsCourseInRange levels (Demo seed fly) = IsFlyInRange levels fly

-- a course as contracts see it
abbrev pub course_view : course.Course → Course
course_view (variant.Frame k x y) = Frame k x y
course_view (variant.Play script) = Play (play_view script.now)
course_view (variant.Fly script workers) = Fly (fly_view script.now) workers
course_view (variant.Demo seed script) = Demo seed (fly_view script.now)
