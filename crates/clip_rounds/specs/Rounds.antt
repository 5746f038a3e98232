-- What a round has between its steps.
use Rattle.std.specs.Prelude.{◌≡◌, ℕ, ◌+◌, ◌≤◌, List, [], ◌∷◌, length, Option, Some, None, IsSome, ⊤}
use Rattle.mesh_model.specs.Mesh.{MeshLists}
use Rattle.plan_model.specs.States.{pass_at, job_of, frame_of}
use Rattle.plan_model.specs.Rounds.{frame_pass}
use Rattle.clip_book.specs.Books.{BookView, IsJobOf}
use Rattle.clip_book.specs.Jobs.{JobView}
use Rattle.decode_workers.specs.Drawn.{IsFrameMesh}
use Rattle.decode_rounds.specs.Homes.{AreJobTasks, AllGoBack}
use Rattle.decode_rounds.specs.declared.tasks.Task.{Task}
use Rattle.decode_rounds.specs.declared.tasks.Done.{Done}
use Rattle.decode_rounds.specs.declared.tasks.Done.TheVariants as D

-- no pass from p on has a job
abbrev pub HaveNoJobs : BookView → ℕ → Type 0
HaveNoJobs book p = (q : ℕ) → p ≤ q → job_of (pass_at book.plan.state q) ≡ None

-- a job that was claimed is the pass's
abbrev pub IsClaimOf : BookView → ℕ → Option JobView → Type 0
IsClaimOf book p None = ⊤
IsClaimOf book p (Some job) = IsJobOf book p job

-- the tasks are the jobs of the passes that have one, which are the first ones
pub record AreClaims (book : BookView) (tasks : List Task) : Type 0 where
  pub jobs : AreJobTasks book 0 tasks
  pub few : length tasks ≤ 15
  pub others : HaveNoJobs book (length tasks)

-- what is done are fills alone
abbrev pub IsFill : Done → Type 0
IsFill (D.Drawn by made) = ⊥
IsFill (D.Filled by job) = ⊤

abbrev pub AreFills : List Done → Type 0
AreFills [] = ⊤
AreFills (done ∷ rest) = IsFill done × AreFills rest

-- what is filled goes back by the passes from p on, in their order, and no other pass from p on has a job
pub record AreHomeward (book : BookView) (p : ℕ) (jobs : List Done) : Type 0 where
  pub back : AllGoBack book p jobs
  pub fills : AreFills jobs
  pub few : p + length jobs ≤ 15
  pub others : HaveNoJobs book (p + length jobs)

-- the mesh is that of the frame of the pass that draws, if it has one
abbrev pub IsDrawn : BookView → Option MeshLists → Type 0
IsDrawn book None = frame_of (pass_at book.plan.state frame_pass) ≡ None
IsDrawn book (Some made) = IsSome (frame_of (pass_at book.plan.state frame_pass)) × IsFrameMesh book frame_pass made
