-- What is true of the files that a course puts, as statements: each is the contract of a law of this crate.
use Rattle.std.specs.Prelude.{◌≡◌, ℕ, ◌<◌, ◌^◌, ◌⊎◌, List, All, length}
use Rattle.terrain_model.specs.Terrain.{Terrain}
use Rattle.plan_model.specs.States.{OpenFrame}
use Rattle.mesh_model.specs.declared.shapes.HalfSpace.{HalfSpace}
use Rattle.mesh_model.specs.Watertight.{IsWatertight}
use Rattle.mesh_check.specs.Verdict.{verdict}
use Rattle.mesh_check.specs.declared.verdict.Verdict.TheVariants.{Watertight}
use Rattle.terrain_store.specs.Shapes.{Land, IsLand}
use Rattle.run_actions.specs.Actions.{Action, Put, Write}
use Rattle.clip_desk.specs.Frames.{mesh_of, seen_text_of, whole_text_of}
use Rattle.clip_runs.specs.Courses.{Course, Frame, Play, Fly, Demo, IsCourseInRange, course_actions}

-- the text is that of the whole mesh of a frame over the terrain: the mesh is watertight, and that is the verdict on
-- the text, with the number of its triangles, for each frame number of 64 bits
pub record IsWholeFrame (terrain : Terrain) (k : ℕ) (text : List ℕ) : Type 0 where
  pub frame : OpenFrame
  pub of_frame : text ≡ whole_text_of frame (mesh_of terrain k frame)
  pub watertight : IsWatertight terrain k frame.actives
  pub judged : frame.number < 2 ^ 64 → verdict text ≡ Watertight (length (mesh_of terrain k frame).triangles)

-- the text is that of the parts of a frame that a view keeps: the whole mesh of the frame is watertight
pub record IsSeenFrame (terrain : Terrain) (k : ℕ) (text : List ℕ) : Type 0 where
  pub frame : OpenFrame
  pub view : List HalfSpace
  pub of_parts : text ≡ seen_text_of frame view (mesh_of terrain k frame)
  pub watertight : IsWatertight terrain k frame.actives

-- what an action puts is such a text
abbrev pub PutsWatertight : Terrain → ℕ → Action → Type 0
PutsWatertight terrain k (Put name text) = IsWholeFrame terrain k text ⊎ IsSeenFrame terrain k text
PutsWatertight terrain k (Write text) = Unit {0}

-- the K of a course
abbrev pub size_of : Course → ℕ
size_of (Frame k x y) = k
size_of (Play play) = play.k
size_of (Fly fly workers) = fly.k
size_of (Demo seed fly) = fly.k

-- each file that a course puts over a terrain is such a text
abbrev pub CoursesPutWatertightFrames : Type 0
CoursesPutWatertightFrames =
    (course : Course) (land : Land) (name : List ℕ) → IsLand land → IsCourseInRange land.levels course →
    All (PutsWatertight land.terrain (size_of course)) (course_actions course land name)
