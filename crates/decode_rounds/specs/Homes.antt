-- Jobs that the passes of a book have filled in a round, and give back.
use Rattle.std.specs.Prelude.{◌≡◌, ℕ, ◌+◌, List, [], ◌∷◌, ⊤}
use Rattle.clip_book.specs.Books.{BookView, IsJobOf, IsFilledOf}
use Rattle.decode_rounds.specs.declared.tasks.Task.{Task}
use Rattle.decode_rounds.specs.declared.tasks.Task.TheVariants as T
use Rattle.decode_rounds.specs.declared.tasks.Done.{Done}
use Rattle.decode_rounds.specs.declared.tasks.Done.TheVariants as D

-- the task is to fill the job that the pass has of the book
abbrev pub IsJobTask : BookView → ℕ → Task → Type 0
IsJobTask book p (T.Draw by) = ⊥
IsJobTask book p (T.Fill by job) = (by ≡ p) × IsJobOf book p job

-- the tasks are the jobs of the passes from p on, in their order
abbrev pub AreJobTasks : BookView → ℕ → List Task → Type 0
AreJobTasks book p [] = ⊤
AreJobTasks book p (task ∷ tasks) = IsJobTask book p task × AreJobTasks book (p + 1) tasks

-- what is done can be given back by the pass, where it is a job
abbrev pub GoesBack : BookView → ℕ → Done → Type 0
GoesBack book p (D.Drawn by made) = ⊤
GoesBack book p (D.Filled by filled) = (by ≡ p) × IsFilledOf book p filled

-- so it is for the passes from p on, in their order
abbrev pub AllGoBack : BookView → ℕ → List Done → Type 0
AllGoBack book p [] = ⊤
AllGoBack book p (done ∷ rest) = GoesBack book p done × AllGoBack book (p + 1) rest
