-- What an event adds to the cells that are done and to the frames that are open, as statements for laws of this crate.
use Rattle.std.specs.Prelude.{◌≡◌, ℕ, ◌⊎◌, ℤ}
use Rattle.std.specs.List.{Any}
use Rattle.plan_model.specs.Blocks.{tile_of_cell}
use Rattle.plan_model.specs.States.{State, OpenFrame, filled_at}
use Rattle.plan_model.specs.Tiles.{IsHeld, IsPinned}
use Rattle.plan_model.specs.Steps.{step, next_frame}
use Rattle.plan_model.specs.declared.tiles.TileId.{TileId}
use Rattle.plan_model.specs.declared.events.JobNote.{JobNote}
use Rattle.plan_model.specs.declared.events.Event.{Event}
use Rattle.plan_model.specs.declared.events.Event.TheVariants.{Finish, Begin}
use Rattle.plan_holds.specs.Apart.{HasCell}
use Rattle.plan_holds.specs.Kept.{finished_at, HasJob, HasFrame, active_in, IsKept}

-- a cell of a level is filled, or it lies in a finished piece
abbrev pub IsDone : State → ℕ → ℤ → ℤ → Type 0
IsDone st level i j =
    HasCell (filled_at st level) i j ⊎ Any (λ piece. HasCell piece.cells i j) (finished_at st level)

-- the event gives back a job of the level that has the cell
pub record IsGivenBack (st : State) (p : ℕ) (event : Event) (level : ℕ) (i j : ℤ) : Type 0 where
  pub asked : event ≡ Finish
  pub job : JobNote
  pub has : HasJob st p job
  pub same : job.level ≡ level
  pub cell : HasCell job.piece.cells i j

-- a cell that is done in the next state was done before, or the event gave it back
abbrev pub AddsCells : State → ℕ → Event → State → Type 0
AddsCells st p event next =
    (level : ℕ) (i j : ℤ) → IsDone next level i j → IsDone st level i j ⊎ IsGivenBack st p event level i j

-- that is true of the state that an event leaves
abbrev pub StepsFillCells : Type 0
StepsFillCells = (st : State) (p : ℕ) (event : Event) → IsKept st → AddsCells st p event (step st p event).state

-- each cell that a frame draws is filled
abbrev pub DrawsFilled : State → OpenFrame → Type 0
DrawsFilled st frame = (level : ℕ) (i j : ℤ) → HasCell (active_in frame level) i j → HasCell (filled_at st level) i j

-- the event begins the frame in pass q, over filled cells
pub record IsBegun (st : State) (p : ℕ) (event : Event) (q : ℕ) (frame : OpenFrame) : Type 0 where
  pub asked : event ≡ Begin
  pub same : q ≡ p
  pub next : frame ≡ next_frame st
  pub filled : DrawsFilled st frame

-- a frame that is open in the next state was open before, or the event began it
abbrev pub AddsFrames : State → ℕ → Event → State → Type 0
AddsFrames st p event next =
    (q : ℕ) (frame : OpenFrame) → HasFrame next q frame → HasFrame st q frame ⊎ IsBegun st p event q frame

-- that is true of the state that an event leaves
abbrev pub StepsBeginFrames : Type 0
StepsBeginFrames = (st : State) (p : ℕ) (event : Event) → AddsFrames st p event (step st p event).state

-- the tile of a level is pinned, and no pass holds it
abbrev pub IsPinnedAtHome : State → ℕ → TileId → Type 0
IsPinnedAtHome st level t = IsPinned st level t × ¬ IsHeld st level t

-- each cell that a frame draws lies in a pinned tile, which no pass holds
abbrev pub DrawsAtHome : State → OpenFrame → Type 0
DrawsAtHome st frame =
    (level : ℕ) (i j : ℤ) → HasCell (active_in frame level) i j → IsPinnedAtHome st level (tile_of_cell st.k i j)

-- that is true of each open frame
abbrev pub DrawnCellsAtHome : Type 0
DrawnCellsAtHome = (st : State) (p : ℕ) (frame : OpenFrame) → IsKept st → HasFrame st p frame → DrawsAtHome st frame
