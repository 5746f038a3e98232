-- What each event's own answer tells of the answer that a journal keeps.
use Rattle.std.specs.Prelude.{◌≡◌, ℕ, Option, Some, None, option_map}
use Rattle.book_plan.specs.declared.plan.FrameNote.{FrameNote}
use Rattle.plan_model.specs.Steps.{job_answer}
use Rattle.plan_model.specs.declared.events.JobNote.{JobNote}
use Rattle.plan_model.specs.declared.events.Answer.{Answer}
use Rattle.plan_model.specs.declared.events.Answer.TheVariants.{Moved, Job, Idle, Ripe, Busy, Held, HasWork, Kept, Stale, Grown, Waiting, Whole, Frame, Closed, NoFrame}
use Rattle.clip_book.specs.declared.answers.Claimed.{Claimed}
use Rattle.clip_book.specs.declared.answers.Claimed.TheVariants as C
use Rattle.clip_book.specs.declared.answers.Given.{Given}
use Rattle.clip_book.specs.declared.answers.Given.TheVariants as G
use Rattle.clip_book.specs.declared.answers.Published.{Published}
use Rattle.clip_book.specs.declared.answers.Published.TheVariants as P
use Rattle.clip_book.specs.declared.answers.Begun.{Begun}
use Rattle.clip_book.specs.declared.answers.Begun.TheVariants as B
use Rattle.clip_book.specs.declared.answers.Ended.{Ended}
use Rattle.clip_book.specs.declared.answers.Ended.TheVariants as E

-- the plain answer of a claim: of a job, what a journal tells
abbrev pub said_of_claim : Claimed → Answer
said_of_claim (C.Job job) = job_answer job.note
said_of_claim C.Idle = Idle
said_of_claim (C.Ripe level) = Ripe level
said_of_claim (C.Busy level tile frame) = Busy level tile frame
said_of_claim (C.Held level tile pass) = Held level tile pass
said_of_claim C.HasWork = HasWork

abbrev pub said_of_given : Given → Answer
said_of_given G.Kept = Kept
said_of_given (G.Stale plan now) = Stale plan now

abbrev pub said_of_published : Published → Answer
said_of_published (P.Grown region) = Grown region
said_of_published (P.Waiting pieces) = Waiting pieces
said_of_published P.Whole = Whole

abbrev pub said_of_begun : Begun → Answer
said_of_begun (B.Frame number actives) = Frame number
said_of_begun (B.Held level tile pass) = Held level tile pass
said_of_begun B.HasWork = HasWork

abbrev pub said_of_ended : Ended → Answer
said_of_ended (E.Closed number) = Closed number
said_of_ended E.NoFrame = NoFrame

-- the job, and the number of the frame, that an answer tells
abbrev pub told_job : Answer → Option JobNote
told_job (Job level bx by cells plan) =
    Some (record { level = level; piece = record { bx = bx; by = by; cells = cells }; plan = plan })
told_job _ = None

abbrev pub told_frame : Answer → Option ℕ
told_frame (Frame number) = Some number
told_frame _ = None

-- the active regions of a frame's beginning are those of what is told of the frame
abbrev pub IsOfNote : Option FrameNote → Begun → Type 0
IsOfNote told (B.Frame number actives) = option_map (λ n. n.actives) told ≡ Some actives
IsOfNote told _ = Unit {0}

-- the answers of each kind of event
abbrev pub IsClaimAnswer : Answer → Type 0
IsClaimAnswer (Job level bx by cells plan) = Unit {0}
IsClaimAnswer Idle = Unit {0}
IsClaimAnswer (Ripe level) = Unit {0}
IsClaimAnswer (Busy level tile frame) = Unit {0}
IsClaimAnswer (Held level tile pass) = Unit {0}
IsClaimAnswer HasWork = Unit {0}
IsClaimAnswer _ = ⊥

abbrev pub IsRefusedClaim : Answer → Type 0
IsRefusedClaim Idle = Unit {0}
IsRefusedClaim (Ripe level) = Unit {0}
IsRefusedClaim (Busy level tile frame) = Unit {0}
IsRefusedClaim (Held level tile pass) = Unit {0}
IsRefusedClaim HasWork = Unit {0}
IsRefusedClaim _ = ⊥

abbrev pub IsGivenAnswer : Answer → Type 0
IsGivenAnswer Kept = Unit {0}
IsGivenAnswer (Stale plan now) = Unit {0}
IsGivenAnswer _ = ⊥

abbrev pub IsPublishedAnswer : Answer → Type 0
IsPublishedAnswer (Grown region) = Unit {0}
IsPublishedAnswer (Waiting pieces) = Unit {0}
IsPublishedAnswer Whole = Unit {0}
IsPublishedAnswer _ = ⊥

abbrev pub IsBeginAnswer : Answer → Type 0
IsBeginAnswer (Held level tile pass) = Unit {0}
IsBeginAnswer HasWork = Unit {0}
IsBeginAnswer (Frame number) = Unit {0}
IsBeginAnswer _ = ⊥

abbrev pub IsRefusedBegin : Answer → Type 0
IsRefusedBegin (Held level tile pass) = Unit {0}
IsRefusedBegin HasWork = Unit {0}
IsRefusedBegin _ = ⊥

abbrev pub IsEndedAnswer : Answer → Type 0
IsEndedAnswer (Closed number) = Unit {0}
IsEndedAnswer NoFrame = Unit {0}
IsEndedAnswer _ = ⊥
