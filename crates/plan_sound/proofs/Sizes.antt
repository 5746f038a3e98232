-- Each event leaves K and the numbers of levels and of passes.
use Rattle.std.proofs.Common.{ℕ, ◌==◌, ℤ, length, Option, Some, None, refl}
use Rattle.std.proofs.lemmas.Bool.{cond_both}
use Rattle.std.proofs.lemmas.List.{length-set}
use Rattle.std.proofs.lemmas.List.FromFn.{length-map-range_with_len}
use Rattle.clip_regions.specs.declared.region.Region.{Region}
use Rattle.plan_model.specs.Strips.{first_of}
use Rattle.plan_model.specs.States.{OpenFrame, Pass, State, level_at, pass_at, with_pass, window_at, job_of, frame_of, has_work}
use Rattle.plan_model.specs.Claims.{Offer, offers, strip_at, unfinished_pieces, pieces_at}
use Rattle.plan_model.specs.Steps.{Step, LevelTile, seen_from, stays, moved_level, move_step, claimed_job, claimed, claim_step, finished_level, finished_job, given_back, finish_step, grown_level, published, publish_step, held_under, actives_at, next_frame, frame_begun, begin_step, ended, end_step}
use Rattle.plan_model.specs.declared.events.JobNote.{JobNote}
use Rattle.plan_model.specs.declared.events.Work.TheVariants.{Free, Fills, Draws}
use Rattle.plan_model.specs.declared.events.Event.TheVariants.{Move, Claim, Finish, Publish, Begin, End}
use Rattle.plan_sound.specs.Laws.{HasSizeOf, StepsKeepSizes}

-- and so after a step
abbrev Leaves : State → Step → Type 0
Leaves st next = HasSizeOf st next.state

all_same : (st : State) → HasSizeOf st st
all_same st = record { k = refl; levels = refl; passes = refl }

pass_put : (st : State) (p : ℕ) (new : Pass) → HasSizeOf st (with_pass st p new)
pass_put st p new = record { k = refl; levels = refl; passes = length-set st.passes p new }

leaves_move : (st : State) (x y : ℤ) (a : ℕ) → Leaves st (move_step st x y a)
unfolding move_step
leaves_move st x y a = record {
  k = refl;
  levels = length-map-range_with_len (λ (level : ℕ). moved_level (stays st (seen_from st x y a) level) (window_at (seen_from st x y a) level) (level_at st level)) 0 (length st.levels);
  passes = refl;
}

leaves_claimed : (st : State) (p : ℕ) (offer : Option Offer) → Leaves st (claimed st p offer)
leaves_claimed st p None = all_same st
leaves_claimed st p (Some offer) = pass_put st p (Fills (claimed_job st offer))

leaves_claim : (st : State) (p : ℕ) → Leaves st (claim_step st p)
unfolding claim_step
leaves_claim st p =
    cond_both (has_work (pass_at st p)) _ _ (Leaves st) (λ _. all_same st) (λ _. leaves_claimed st p (first_of (offers st)))

leaves_finished : (st : State) (p : ℕ) (job : JobNote) → Leaves st (finished_job st p job)
unfolding finished_job
leaves_finished st p job =
    cond_both (job.plan == (level_at st job.level).plan) _ _ (Leaves st) (λ _. record { k = refl; levels = length-set st.levels job.level (finished_level (pieces_at st job.level) (level_at st job.level) job.piece); passes = length-set st.passes p Free }) (λ _. pass_put st p Free)

leaves_given_back : (st : State) (p : ℕ) (job : Option JobNote) → Leaves st (given_back st p job)
leaves_given_back st p None = all_same st
leaves_given_back st p (Some job) = leaves_finished st p job

leaves_published : (st : State) (level : ℕ) (strip : Option Region) → Leaves st (published st level strip)
leaves_published st level None = all_same st
leaves_published st level (Some strip) =
    cond_both (length (unfinished_pieces st level) == 0) _ _ (Leaves st) (λ _. record { k = refl; levels = length-set st.levels level (grown_level (level_at st level) strip); passes = refl }) (λ _. all_same st)

leaves_begun : (st : State) (p : ℕ) (held : Option LevelTile) → Leaves st (frame_begun st p held)
leaves_begun st p None = record { k = refl; levels = refl; passes = length-set st.passes p (Draws (next_frame st)) }
leaves_begun st p (Some held) = all_same st

leaves_begin : (st : State) (p : ℕ) → Leaves st (begin_step st p)
unfolding begin_step
leaves_begin st p =
    cond_both (has_work (pass_at st p)) _ _ (Leaves st) (λ _. all_same st) (λ _. leaves_begun st p (first_of (held_under st (actives_at st))))

leaves_ended : (st : State) (p : ℕ) (frame : Option OpenFrame) → Leaves st (ended st p frame)
leaves_ended st p None = all_same st
leaves_ended st p (Some frame) = pass_put st p Free

pub sizes_kept : StepsKeepSizes
unfolding finish_step publish_step end_step
sizes_kept st p (Move x y a) = leaves_move st x y a
sizes_kept st p Claim = leaves_claim st p
sizes_kept st p Finish = leaves_given_back st p (job_of (pass_at st p))
sizes_kept st p (Publish level) = leaves_published st level (strip_at st level)
sizes_kept st p Begin = leaves_begin st p
sizes_kept st p End = leaves_ended st p (frame_of (pass_at st p))
