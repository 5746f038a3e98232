-- The job that a claim gives.
use Rattle.std.specs.Prelude.{Option, Some, None}
use Rattle.clip_book.specs.Jobs.{JobView}
use Rattle.clip_book.specs.declared.answers.Claimed.{Claimed}
use Rattle.clip_book.specs.declared.answers.Claimed.TheVariants as C

-- the job that a claim gives, if it gives one
abbrev pub job_in : Claimed → Option JobView
job_in (C.Job job) = Some job
job_in _ = None
