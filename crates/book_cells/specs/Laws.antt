-- What every book keeps of its heights, as statements: each is the contract of a law of this crate.
use Rattle.std.specs.Prelude.{◌≡◌, ℕ, ◌+◌, ◌<◌, ℤ, List, length, false, Some, is_some, IsTrue}
use Rattle.std.specs.List.{Contains}
use Rattle.terrain_model.specs.Terrain.{Terrain, level_height}
use Rattle.plan_model.specs.Limits.{IsSize}
use Rattle.plan_model.specs.Blocks.{tile_of_cell}
use Rattle.plan_model.specs.Strips.{need}
use Rattle.plan_model.specs.States.{State, OpenFrame, start_state, pass_at, has_work}
use Rattle.plan_model.specs.Tiles.{IsHeld}
use Rattle.plan_model.specs.Claims.{pieces_at, tile_of_piece}
use Rattle.plan_model.specs.Steps.{step, job_answer}
use Rattle.plan_model.specs.declared.tiles.TileId.{TileId}
use Rattle.plan_model.specs.declared.events.JobNote.{JobNote}
use Rattle.plan_model.specs.declared.events.Event.{Event}
use Rattle.plan_model.specs.declared.events.Event.TheVariants.{Move, Claim, Finish, Publish, Begin, End}
use Rattle.plan_holds.specs.Apart.{HasCell}
use Rattle.plan_holds.specs.Kept.{HasJob, HasFrame, active_in, IsKept}
use Rattle.torus_grid.specs.Grids.{has_tile}
use Rattle.torus_grid.specs.Places.{tile_height}
use Rattle.book_cells.specs.Cells.{Cells, HasCells, GoesOut, ComesHome}

-- at the start, any heights will do, once all tiles are at home
abbrev pub CellsAtTheStart : Type 0
CellsAtTheStart =
    (terrain : Terrain) (k levels : ℕ) (cells : Cells) → IsSize k →
    ((level : ℕ) (t : TileId) → level < levels → IsTrue (has_tile k t) → IsTrue (is_some (cells.home level t))) →
    HasCells terrain (start_state k levels) cells

-- the event moves no tile, whatever it is answered
abbrev pub MovesNoTile : Event → Type 0
MovesNoTile (Move x y a) = Unit {0}
MovesNoTile Claim = ⊥
MovesNoTile Finish = ⊥
MovesNoTile (Publish level) = Unit {0}
MovesNoTile Begin = Unit {0}
MovesNoTile End = Unit {0}

-- a move, a publication, a frame's beginning and its end leave all heights where they are
abbrev pub CellsStay : Type 0
CellsStay =
    (terrain : Terrain) (st : State) (p : ℕ) (event : Event) (cells : Cells) → IsKept st → MovesNoTile event →
    HasCells terrain st cells → HasCells terrain (step st p event).state cells

-- the claim of pass p is answered with the job
abbrev pub IsClaimed : State → ℕ → JobNote → Type 0
IsClaimed st p job = (step st p Claim).answer ≡ job_answer job

-- what such a claim finds and leaves
pub record IsGiven (st : State) (p : ℕ) (job : JobNote) : Type 0 where
  pub free : has_work (pass_at st p) ≡ false
  pub level : job.level < length st.levels
  pub piece : Contains (pieces_at st job.level) job.piece
  pub unheld : ¬ IsHeld st job.level (tile_of_piece st job.piece)
  pub has : HasJob (step st p Claim).state p job

abbrev pub ClaimsGiveJobs : Type 0
ClaimsGiveJobs = (st : State) (p : ℕ) (job : JobNote) → p < length st.passes → IsClaimed st p job → IsGiven st p job

-- a claim that is answered with a job takes the job's tile out
abbrev pub CellsGoOut : Type 0
CellsGoOut =
    (terrain : Terrain) (st : State) (p : ℕ) (job : JobNote) (old new : Cells) → IsKept st → p < length st.passes →
    IsClaimed st p job → GoesOut job.level (tile_of_piece st job.piece) p old new →
    HasCells terrain st old → HasCells terrain (step st p Claim).state new

-- a job that is given back, kept or stale, puts its tile back, with its cells filled
abbrev pub CellsComeHome : Type 0
CellsComeHome =
    (terrain : Terrain) (st : State) (p : ℕ) (job : JobNote) (old new : Cells) → IsKept st → HasJob st p job →
    ComesHome terrain job (tile_of_piece st job.piece) p old new →
    HasCells terrain st old → HasCells terrain (step st p Finish).state new

-- the cell lies in a tile at home, and has the terrain's level height there
pub record IsAtHome (terrain : Terrain) (st : State) (cells : Cells) (level : ℕ) (i j : ℤ) : Type 0 where
  pub heights : List ℤ
  pub home : cells.home level (tile_of_cell st.k i j) ≡ Some heights
  pub right : tile_height heights i j ≡ level_height terrain level i j

-- so it is with each cell that an open frame draws
abbrev pub DrawnCellsHaveHeights : Type 0
DrawnCellsHaveHeights =
    (terrain : Terrain) (st : State) (cells : Cells) (p : ℕ) (frame : OpenFrame) (level : ℕ) (i j : ℤ) → IsKept st →
    HasCells terrain st cells → HasFrame st p frame → level < length st.levels → HasCell (active_in frame level) i j →
    IsAtHome terrain st cells level i j

-- and with each coarser cell that a claimed piece needs
abbrev pub NeededCellsHaveHeights : Type 0
NeededCellsHaveHeights =
    (terrain : Terrain) (st : State) (cells : Cells) (p : ℕ) (job : JobNote) (i j : ℤ) → IsKept st →
    HasCells terrain st cells → IsClaimed st p job → job.level + 1 < length st.levels →
    HasCell (need job.piece.cells) i j → IsAtHome terrain st cells (job.level + 1) i j
