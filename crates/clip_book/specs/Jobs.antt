-- What a contract sees of a job, and what every job keeps.
use Rattle.std.specs.Prelude.{◌≡◌, ℕ, ◌+◌, ◌<◌, ◌==◌, ℤ, pos, ◌*ℤ◌, ◌-ℤ◌, List, false, IsTrue, map, if◌then◌else◌}
use Rattle.clip_regions.specs.declared.region.Region.{Region}
use Rattle.clip_regions.specs.Regions.{empty_region, contains, is_empty, holds, cells}
use Rattle.terrain_model.specs.Terrain.{Terrain, level_height}
use Rattle.plan_model.specs.Blocks.{block_cells}
use Rattle.plan_model.specs.Strips.{need}
use Rattle.plan_model.specs.declared.events.JobNote.{JobNote}
use Rattle.plan_laws.specs.Needs.{patch_of}
use Rattle.plan_holds.specs.Apart.{HasCell}
use Rattle.four_point.specs.declared.patch.Patch.{Patch}
use Rattle.four_point.specs.Patches.{patch_height}
use Rattle.terrain_store.specs.Shapes.{Land}

-- a job: the terrain that it names, its level, piece and plan number, its patch, and the 64 heights of its tile
pub record JobView : Type 0 where
  pub land : Land
  pub note : JobNote
  pub patch : Patch
  pub tile : List ℤ

-- a job whose cells are filled
pub record FilledView : Type 0 where
  pub land : Land
  pub note : JobNote
  pub tile : List ℤ

-- the coarser cells that a job of so many levels needs: none at the coarsest
abbrev pub needed : ℕ → JobNote → Region
needed levels note = if note.level + 1 == levels then empty_region else need note.piece.cells

-- the patch of the job's block has the coarser level heights of its need, and 0 elsewhere
pub record IsPatch (land : Land) (note : JobNote) (patch : Patch) : Type 0 where
  pub column : patch.i0 ≡ pos 4 *ℤ note.piece.bx -ℤ pos 1
  pub row : patch.j0 ≡ pos 4 *ℤ note.piece.by -ℤ pos 1
  pub there : (i j : ℤ) → HasCell (needed land.levels note) i j →
      patch_height patch i j ≡ level_height land.terrain (note.level + 1) i j
  pub elsewhere : (i j : ℤ) → HasCell (patch_of note.piece.bx note.piece.by) i j →
      contains (needed land.levels note) i j ≡ false → patch_height patch i j ≡ pos 0

-- what is true of every job: its level is one of the terrain's, its cells are some of its block, its patch is as above
pub record IsJob (land : Land) (note : JobNote) (patch : Patch) : Type 0 where
  pub level : note.level < land.levels
  pub some : is_empty note.piece.cells ≡ false
  pub block : IsTrue (holds (block_cells note.piece.bx note.piece.by) note.piece.cells)
  pub coarser : IsPatch land note patch

-- the level heights of a job's cells, row by row
abbrev pub heights_of : Terrain → JobNote → List ℤ
heights_of terrain note = map (λ c. level_height terrain note.level c.0 c.1) (cells note.piece.cells)
