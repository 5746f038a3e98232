-- What holds between any two events of a book, of tiles, pieces, frames and jobs.
use Rattle.std.specs.Prelude.{◌≡◌, ℕ, ◌<◌, ◌≤◌, List, filter, length, slice_index_or, Some, IsTrue, All, Contains}
use Rattle.clip_regions.specs.declared.region.Region.{Region}
use Rattle.clip_regions.specs.Regions.{empty_region, holds}
use Rattle.plan_model.specs.Limits.{IsSize}
use Rattle.plan_model.specs.Blocks.{block_cells}
use Rattle.plan_model.specs.States.{State, OpenFrame, level_at, pass_at, filled_at, window_at, job_of, frame_of}
use Rattle.plan_model.specs.Tiles.{job_holds, IsHeld, IsPinned}
use Rattle.plan_model.specs.Claims.{is_finished, pieces_at, unfinished_pieces, tile_of_piece}
use Rattle.plan_model.specs.Laws.{IsFilledIn}
use Rattle.plan_model.specs.declared.tiles.TileId.{TileId}
use Rattle.plan_model.specs.declared.tiles.Piece.{Piece}
use Rattle.plan_model.specs.declared.events.JobNote.{JobNote}
use Rattle.plan_holds.specs.Apart.{AreApart}

-- the finished pieces of a level, and its plan number
abbrev pub finished_at : State → ℕ → List Piece
finished_at st level = (level_at st level).finished

abbrev pub plan_at : State → ℕ → ℕ
plan_at st level = (level_at st level).plan

-- pass p has this job, and this frame
abbrev pub HasJob : State → ℕ → JobNote → Type 0
HasJob st p job = job_of (pass_at st p) ≡ Some job

abbrev pub HasFrame : State → ℕ → OpenFrame → Type 0
HasFrame st p frame = frame_of (pass_at st p) ≡ Some frame

-- pass p holds the tile of a level
abbrev pub HoldsTile : State → ℕ → ℕ → TileId → Type 0
HoldsTile st p level t = IsTrue (job_holds st.k level t (job_of (pass_at st p)))

-- the active region of a level in a frame
abbrev pub active_in : OpenFrame → ℕ → Region
active_in frame level = slice_index_or frame.actives level empty_region

-- the finished pieces of a level are pieces of its current strip, in the strip's order
abbrev pub AreOfStrip : State → ℕ → Type 0
AreOfStrip st level = finished_at st level ≡ filter (is_finished (finished_at st level)) (pieces_at st level)

-- a piece lies in another torus tile than the first
abbrev pub IsInOtherTile : State → Piece → Piece → Type 0
IsInOtherTile st one piece = ¬ (tile_of_piece st piece ≡ tile_of_piece st one)

-- no cell that a frame draws on the job's level has the wrapped place of one of the job's cells
abbrev pub IsDrawnApart : State → OpenFrame → JobNote → Type 0
IsDrawnApart st frame job = AreApart st.k (active_in frame job.level) job.piece.cells

-- what is true of a pass's job, between any two events
pub record IsJobKept (st : State) (job : JobNote) : Type 0 where
  -- its level is there, and its cells lie in its block
  pub level : job.level < length st.levels
  pub block : IsTrue (holds (block_cells job.piece.bx job.piece.by) job.piece.cells)
  -- its plan is its level's, and its piece is an unfinished piece of the current strip;
  -- or it is an older plan, and no finished piece of that level lies in the job's tile
  pub plan : job.plan ≤ plan_at st job.level
  pub fresh : job.plan ≡ plan_at st job.level → Contains (unfinished_pieces st job.level) job.piece
  pub stale : ¬ (job.plan ≡ plan_at st job.level) → All (IsInOtherTile st job.piece) (finished_at st job.level)
  -- no cell that is filled, finished or drawn on its level has the wrapped place of one of its cells
  pub filled : AreApart st.k (filled_at st job.level) job.piece.cells
  pub finished : All (λ piece. AreApart st.k piece.cells job.piece.cells) (finished_at st job.level)
  pub drawn : (p : ℕ) (frame : OpenFrame) → HasFrame st p frame → IsDrawnApart st frame job

-- what is true of a state, between any two events of a book
pub record IsKept (st : State) : Type 0 where
  pub size : IsSize st.k
  -- a filled region is empty or lies in its window, and the finished pieces are of the current strip
  pub inside : (level : ℕ) → level < length st.levels → IsFilledIn (filled_at st level) (window_at st level)
  pub current : (level : ℕ) → level < length st.levels → AreOfStrip st level
  -- a tile is held by at most one pass, and a held tile is pinned by no open frame
  pub one_holder : (level : ℕ) (t : TileId) (p q : ℕ) → HoldsTile st p level t → HoldsTile st q level t → p ≡ q
  pub held : (level : ℕ) (t : TileId) → IsHeld st level t → ¬ IsPinned st level t
  -- open frames have different numbers below the count of frames
  pub number : (p : ℕ) (frame : OpenFrame) → HasFrame st p frame → frame.number < st.begun
  pub one_frame : (p q : ℕ) (a b : OpenFrame) → HasFrame st p a → HasFrame st q b → a.number ≡ b.number → p ≡ q
  -- each job is as above
  pub jobs : (p : ℕ) (job : JobNote) → HasJob st p job → IsJobKept st job
