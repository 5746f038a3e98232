-- What it is to fill a job.
use Rattle.std.specs.Prelude.{◌≡◌, ℕ, pos, ◌-ℤ◌, ◌≤ℤ◌}
use Rattle.clip_regions.specs.declared.region.Region.{Region}
use Rattle.block_heights.specs.declared.block.Block.{Block}
use Rattle.terrain_store.specs.Stores.{Stored, IsStored, land_of}
use Rattle.terrain_store.specs.Blocks.{HasBlock}
use Rattle.book_cells.specs.Cells.{IsPainted}
use Rattle.clip_book.specs.Jobs.{JobView, FilledView}
use Rattle.clip_book.specs.Books.{BookView, IsJobOf, IsFilledOf}

-- some cells, of at most eight columns and rows
pub record HasFewCells (cells : Region) : Type 0 where
  pub some_columns : cells.x0 ≤ℤ cells.x1
  pub few_columns : (cells.x1 -ℤ cells.x0) ≤ℤ pos 7
  pub some_rows : cells.y0 ≤ℤ cells.y1
  pub few_rows : (cells.y1 -ℤ cells.y0) ≤ℤ pos 7

-- the block is the job's level and block of a store that stands for the job's terrain
pub record IsBlockOfJob (block : Block) (job : JobView) : Type 0 where
  pub store : Stored
  pub stands : IsStored store
  pub land : land_of store ≡ job.land
  pub step : block.step ≡ store.head.step
  pub level : block.level ≡ job.note.level
  pub column : block.bx ≡ job.note.piece.bx
  pub row : block.by ≡ job.note.piece.by
  pub content : HasBlock block.kind store block.level block.bx block.by block.inside

-- the same job, filled: its cells have the terrain's level heights, and all other cells of its tile are as they were
pub record IsFilling (job : JobView) (filled : FilledView) : Type 0 where
  pub land : filled.land ≡ job.land
  pub note : filled.note ≡ job.note
  pub painted : IsPainted job.land.terrain job.note.level job.note.piece.cells job.tile filled.tile

-- a job that a pass has of a book can be given back to it by that pass, once it is filled
abbrev pub FilledJobsGoBack : Type 0
FilledJobsGoBack =
    (book : BookView) (p : ℕ) (job : JobView) (filled : FilledView) →
    IsJobOf book p job → IsFilling job filled → IsFilledOf book p filled
