-- The heights that a book keeps: those of each level's tiles at home, and those of a pass's tile as it was handed out.
use Rattle.std.specs.Prelude.{◌≡◌, ℕ, ◌<◌, ℤ, List, length, Option, Some, None, is_some, IsTrue}
use Rattle.clip_regions.specs.declared.region.Region.{Region}
use Rattle.terrain_model.specs.Terrain.{Terrain, level_height}
use Rattle.plan_model.specs.Blocks.{tile_of_cell}
use Rattle.plan_model.specs.States.{State, OpenFrame}
use Rattle.plan_model.specs.Tiles.{IsHeld}
use Rattle.plan_model.specs.Claims.{tile_of_piece}
use Rattle.plan_model.specs.declared.tiles.TileId.{TileId}
use Rattle.plan_model.specs.declared.events.JobNote.{JobNote}
use Rattle.plan_holds.specs.Apart.{HasCell}
use Rattle.plan_holds.specs.Kept.{HasJob, HasFrame, active_in}
use Rattle.plan_holds.specs.Changes.{IsDone}
use Rattle.torus_grid.specs.Grids.{has_tile}
use Rattle.torus_grid.specs.Places.{tile_height, IsFree}

-- the 64 heights of a level's tile while it is at home, and those of the tile of a pass's job as it was handed out
pub record Cells : Type 0 where
  pub home : ℕ → TileId → Option (List ℤ)
  pub handed : ℕ → List ℤ

-- a cell has the terrain's level height at its wrapped place: in its tile at home, or in the tile as it was handed out
pub record HasHeight (terrain : Terrain) (st : State) (cells : Cells) (level : ℕ) (i j : ℤ) : Type 0 where
  pub home : (heights : List ℤ) → cells.home level (tile_of_cell st.k i j) ≡ Some heights →
      tile_height heights i j ≡ level_height terrain level i j
  pub out : (p : ℕ) (job : JobNote) → HasJob st p job → job.level ≡ level →
      tile_of_piece st job.piece ≡ tile_of_cell st.k i j →
      tile_height (cells.handed p) i j ≡ level_height terrain level i j

-- what is true of the heights between any two events
pub record HasCells (terrain : Terrain) (st : State) (cells : Cells) : Type 0 where
  -- a tile that no pass holds is at home, and the tile of each job is out
  pub home : (level : ℕ) (t : TileId) → level < length st.levels → IsTrue (has_tile st.k t) → ¬ IsHeld st level t →
      IsTrue (is_some (cells.home level t))
  pub out : (p : ℕ) (job : JobNote) → HasJob st p job → cells.home job.level (tile_of_piece st job.piece) ≡ None
  -- each cell that is filled or finished has its height, and so has each that an open frame draws
  pub done : (level : ℕ) (i j : ℤ) → IsDone st level i j → HasHeight terrain st cells level i j
  pub drawn : (p : ℕ) (frame : OpenFrame) (level : ℕ) (i j : ℤ) → HasFrame st p frame →
      HasCell (active_in frame level) i j → HasHeight terrain st cells level i j

-- a tile is another than that of a level
abbrev pub IsOther : ℕ → TileId → ℕ → TileId → Type 0
IsOther level t l u = (l ≡ level → u ≡ t → ⊥)

-- of two books' heights, all tiles but one, and the tiles of all passes but one, have the same heights
pub record SameCellsBut (level : ℕ) (t : TileId) (p : ℕ) (old new : Cells) : Type 0 where
  pub home : (l : ℕ) (u : TileId) → IsOther level t l u → new.home l u ≡ old.home l u
  pub handed : (q : ℕ) → (q ≡ p → ⊥) → new.handed q ≡ old.handed q

-- the tile of a level goes out to pass p, with the heights that it has
pub record GoesOut (level : ℕ) (t : TileId) (p : ℕ) (old new : Cells) : Type 0 where
  pub taken : old.home level t ≡ Some (new.handed p)
  pub out : new.home level t ≡ None
  pub others : SameCellsBut level t p old new

-- a tile after the cells of a job were filled: these have the terrain's level heights, and all others their old ones
pub record IsPainted (terrain : Terrain) (level : ℕ) (cells : Region) (old new : List ℤ) : Type 0 where
  pub written : (i j : ℤ) → HasCell cells i j → tile_height new i j ≡ level_height terrain level i j
  pub others : (i j : ℤ) → IsFree cells i j → tile_height new i j ≡ tile_height old i j

-- the tile of a pass's job comes home, with the job's cells filled
pub record ComesHome (terrain : Terrain) (job : JobNote) (t : TileId) (p : ℕ) (old new : Cells) : Type 0 where
  pub heights : List ℤ
  pub home : new.home job.level t ≡ Some heights
  pub painted : IsPainted terrain job.level job.piece.cells (old.handed p) heights
  pub others : SameCellsBut job.level t p old new
