-- What whoever keeps the jobs of a book's passes knows of them.
use Rattle.std.specs.Prelude.{◌≡◌, ℕ, List, length, slice_index_or, Option, Some, None}
use Rattle.terrain_model.specs.Terrain.{Terrain}
use Rattle.terrain_store.specs.Shapes.{IsLand}
use Rattle.clip_book.specs.Jobs.{JobView}
use Rattle.clip_book.specs.Books.{BookView, IsJobOf}

-- each of some passes' jobs is the one that the pass has of the book
abbrev pub HoldsJobs : BookView → List (Option JobView) → Type 0
HoldsJobs book jobs = (p : ℕ) (job : JobView) → slice_index_or jobs p None ≡ Some job → IsJobOf book p job

-- the terrain of a book, the book, and its passes' jobs
pub record Kept : Type 0 where
  pub terrain : Terrain
  pub book : BookView
  pub jobs : List (Option JobView)

-- they belong together
pub record AreKept (kept : Kept) : Type 0 where
  pub terrain : kept.book.land.terrain ≡ kept.terrain
  pub land : IsLand kept.book.land
  pub many : length kept.jobs ≡ 16
  pub jobs : HoldsJobs kept.book kept.jobs
