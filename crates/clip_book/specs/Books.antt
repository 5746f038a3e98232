-- What a contract sees of a book, and what an event does to it.
use Rattle.std.specs.Prelude.{◌≡◌, ℕ, ◌<◌, ℤ, List, length, Option, Some, option_map}
use Rattle.plan_model.specs.States.{State, OpenFrame, start_state, pass_at, frame_of}
use Rattle.plan_model.specs.declared.events.Event.{Event}
use Rattle.plan_model.specs.declared.events.Answer.{Answer}
use Rattle.plan_holds.specs.Apart.{HasCell}
use Rattle.plan_holds.specs.Kept.{HasJob, HasFrame, active_in, IsKept}
use Rattle.book_plan.specs.Books.{PlanView, Does as Plans}
use Rattle.book_cells.specs.Cells.{HasCells, IsPainted}
use Rattle.terrain_store.specs.Shapes.{Land}
use Rattle.clip_book.specs.Tiles.{Tiles, grid_on, handed_to, cells_of}
use Rattle.clip_book.specs.Jobs.{JobView, FilledView}
use Rattle.clip_book.specs.declared.answers.Claimed.{Claimed}
use Rattle.clip_book.specs.declared.answers.Claimed.TheVariants as C
use Rattle.clip_book.specs.declared.answers.Begun.{Begun}
use Rattle.clip_book.specs.declared.answers.Begun.TheVariants as B

-- the state of the plan and the number of moves; the terrain with its levels; and what each pass was handed last:
-- the 64 heights of its job's tile, for a pass that has a job
pub record BookView : Type 0 where
  pub plan : PlanView
  pub land : Land
  pub handed : List (Option (List ℤ))

-- an event of pass p is answered, and changes the state, as the definition's step says; the terrain stays, and so does
-- what every other pass was handed
pub record Does (p : ℕ) (event : Event) (answer : Answer) (old new : BookView) : Type 0 where
  pub plan : Plans p event answer old.plan new.plan
  pub land : new.land ≡ old.land
  pub others : (q : ℕ) → (q ≡ p → ⊥) → handed_to new.handed q ≡ handed_to old.handed q

-- a job is the one that pass p has of the book: it names the book's terrain, is the state's job of the pass, and its
-- tile has the heights that were handed out
pub record IsJobOf (book : BookView) (p : ℕ) (job : JobView) : Type 0 where
  pub land : job.land ≡ book.land
  pub note : HasJob book.plan.state p job.note
  pub tile : job.tile ≡ handed_to book.handed p

-- a claim that gives a job gives this one
abbrev pub GivesJobOf : BookView → ℕ → Claimed → Type 0
GivesJobOf book p (C.Job job) = IsJobOf book p job
GivesJobOf book p _ = Unit {0}

-- a claim that gives no job leaves what the pass was handed too
abbrev pub HandsOutWithJob : Claimed → BookView → BookView → Type 0
HandsOutWithJob (C.Job job) old new = Unit {0}
HandsOutWithJob _ old new = new.handed ≡ old.handed

-- the active regions that a beginning gives are those of the pass's frame
abbrev pub GivesActivesOf : BookView → ℕ → Begun → Type 0
GivesActivesOf book p (B.Frame number actives) =
    option_map (λ frame. frame.actives) (frame_of (pass_at book.plan.state p)) ≡ Some actives
GivesActivesOf book p _ = Unit {0}

-- a filled job is the one that pass p has of the book, with the terrain's level heights in the job's cells
pub record IsFilledOf (book : BookView) (p : ℕ) (job : FilledView) : Type 0 where
  pub land : job.land ≡ book.land
  pub note : HasJob book.plan.state p job.note
  pub painted : IsPainted book.land.terrain job.note.level job.note.piece.cells (handed_to book.handed p) job.tile

-- the frame of pass p shows the cell of the level
pub record Shows (state : State) (p level : ℕ) (i j : ℤ) : Type 0 where
  pub frame : OpenFrame
  pub has : HasFrame state p frame
  pub cell : HasCell (active_in frame level) i j

-- what is true of every book between two events
pub record IsBook (plan : PlanView) (land : Land) (tiles : Tiles) : Type 0 where
  pub levels : length plan.state.levels ≡ land.levels
  pub kept : IsKept plan.state
  pub many : length tiles.grids ≡ length plan.state.levels
  pub size : (level : ℕ) → level < length plan.state.levels → (grid_on tiles.grids level).k ≡ plan.state.k
  pub passes : length tiles.handed ≡ 16
  pub cells : HasCells land.terrain plan.state (cells_of tiles)

-- a book at the start
abbrev pub started : ℕ → Land → PlanView
started k land = record { state = start_state k land.levels; moves = 0 }
