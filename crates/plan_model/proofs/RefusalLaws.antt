-- The law of refused events: an event that answers otherwise than by a refusal is excluded by its answer, and every other one leaves the state.
use Rattle.std.proofs.Common.{◌≡◌, ℕ, true, false, ◌==◌, length, Option, Some, None, refl, sym}
use Rattle.std.proofs.lemmas.Bool.{cond_both, true≢false}
use Rattle.clip_regions.specs.declared.region.Region.{Region}
use Rattle.plan_model.specs.Strips.{first_of}
use Rattle.plan_model.specs.States.{State, OpenFrame, pass_at, job_of, frame_of, level_at, has_work}
use Rattle.plan_model.specs.Claims.{Offer, offers, strip_at, unfinished_pieces}
use Rattle.plan_model.specs.Steps.{Step, LevelTile, move_step, claimed, claim_step, finished_job, given_back, finish_step, published, publish_step, held_under, actives_at, frame_begun, begin_step, ended, end_step}
use Rattle.plan_model.specs.Laws.{is_refusal, RefusalsChangeNothing}
use Rattle.plan_model.specs.declared.events.JobNote.{JobNote}
use Rattle.plan_model.specs.declared.events.Event.TheVariants.{Move, Claim, Finish, Publish, Begin, End}

-- the step leaves the state st where it refuses
abbrev Leaves : State → Step → Type 0
Leaves st next = is_refusal next.answer ≡ true → next.state ≡ st

not_refused : (P : Type 0) → false ≡ true → P
not_refused P e = absurd (true≢false (sym e))

leaves_claimed : (st : State) (p : ℕ) (offer : Option Offer) → Leaves st (claimed st p offer)
leaves_claimed st p None = λ _. refl
leaves_claimed st p (Some offer) = not_refused _

leaves_claim : (st : State) (p : ℕ) → Leaves st (claim_step st p)
unfolding claim_step
leaves_claim st p =
    cond_both (has_work (pass_at st p)) _ _ (Leaves st) (λ _. λ _. refl) (λ _. leaves_claimed st p (first_of (offers st)))

leaves_finished : (st : State) (p : ℕ) (job : JobNote) → Leaves st (finished_job st p job)
unfolding finished_job
leaves_finished st p job =
    cond_both (job.plan == (level_at st job.level).plan) _ _ (Leaves st) (λ _. not_refused _) (λ _. not_refused _)

leaves_given_back : (st : State) (p : ℕ) (job : Option JobNote) → Leaves st (given_back st p job)
leaves_given_back st p None = λ _. refl
leaves_given_back st p (Some job) = leaves_finished st p job

leaves_published : (st : State) (l : ℕ) (strip : Option Region) → Leaves st (published st l strip)
leaves_published st l None = λ _. refl
leaves_published st l (Some strip) =
    cond_both (length (unfinished_pieces st l) == 0) _ _ (Leaves st) (λ _. not_refused _) (λ _. λ _. refl)

leaves_begun : (st : State) (p : ℕ) (held : Option LevelTile) → Leaves st (frame_begun st p held)
leaves_begun st p None = not_refused _
leaves_begun st p (Some held) = λ _. refl

leaves_begin : (st : State) (p : ℕ) → Leaves st (begin_step st p)
unfolding begin_step
leaves_begin st p =
    cond_both (has_work (pass_at st p)) _ _ (Leaves st) (λ _. λ _. refl) (λ _. leaves_begun st p (first_of (held_under st (actives_at st))))

leaves_ended : (st : State) (p : ℕ) (frame : Option OpenFrame) → Leaves st (ended st p frame)
leaves_ended st p None = λ _. refl
leaves_ended st p (Some frame) = not_refused _

pub refusals_change_nothing : RefusalsChangeNothing
unfolding move_step finish_step publish_step end_step
refusals_change_nothing st p (Move x y a) = not_refused _
refusals_change_nothing st p Claim = leaves_claim st p
refusals_change_nothing st p Finish = leaves_given_back st p (job_of (pass_at st p))
refusals_change_nothing st p (Publish l) = leaves_published st l (strip_at st l)
refusals_change_nothing st p Begin = leaves_begin st p
refusals_change_nothing st p End = leaves_ended st p (frame_of (pass_at st p))
