-- What the tasks of a round are, and what is done.
use Rattle.std.specs.Prelude.{◌≡◌, ◌<◌, IsSome}
use Rattle.plan_model.specs.States.{pass_at, frame_of}
use Rattle.clip_book.specs.Books.{BookView}
use Rattle.decode_workers.specs.Drawn.{IsFrameMesh}
use Rattle.decode_workers.specs.Fills.{IsFilling}
use Rattle.decode_rounds.specs.declared.tasks.Task.{Task}
use Rattle.decode_rounds.specs.declared.tasks.Task.TheVariants as T
use Rattle.decode_rounds.specs.declared.tasks.Done.{Done}
use Rattle.decode_rounds.specs.declared.tasks.Done.TheVariants as D

-- a task of a book: a pass that is to draw has a frame of the book, and a job names the book's terrain
abbrev pub IsTaskOf : BookView → Task → Type 0
IsTaskOf book (T.Draw pass) = (pass < 16) × IsSome (frame_of (pass_at book.plan.state pass))
IsTaskOf book (T.Fill pass job) = job.land ≡ book.land

-- what was done is what the task asks for: for a draw the mesh of the pass's frame, for a fill the pass's job, filled
abbrev pub IsDoneOf : BookView → Task → Done → Type 0
IsDoneOf book (T.Draw pass) (D.Drawn by made) = (by ≡ pass) × IsFrameMesh book pass made
IsDoneOf book (T.Draw pass) (D.Filled by filled) = ⊥
IsDoneOf book (T.Fill pass job) (D.Drawn by made) = ⊥
IsDoneOf book (T.Fill pass job) (D.Filled by filled) = (by ≡ pass) × IsFilling job filled
