-- Plan numbers and the count of frames after an event.
use Rattle.std.proofs.Common.{◌≡◌, ℕ, zero, suc, ◌+◌, ◌≤◌, ◌^◌, Bool, true, false, ◌==◌, cond, ℤ, List, [], ◌∷◌, length, get_or, set, Option, Some, None, refl, ap, sym, subst, inl, inr, arith}
use Rattle.std.proofs.lemmas.Bool.{cases_lt}
use Rattle.std.proofs.lemmas.List.{get_or_past}
use Rattle.std.proofs.lemmas.List.FromFn.{length-map-range_with_len, get_or-map-range_with_len}
use Rattle.clip_regions.specs.declared.region.Region.{Region}
use Rattle.plan_model.specs.Strips.{first_of}
use Rattle.plan_model.specs.States.{State, Level, OpenFrame, empty_level, level_at, pass_at, window_at, job_of, frame_of, has_work}
use Rattle.plan_model.specs.Claims.{Offer, offers, strip_at, pieces_at, unfinished_pieces}
use Rattle.plan_model.specs.Steps.{Step, LevelTile, step, unchanged, seen_from, stays, moved_level, moved_levels, move_step, claimed, claim_step, finished_level, kept_job, stale_job, finished_job, given_back, finish_step, grown, published, publish_step, frame_begun, held_under, actives_at, begin_step, ended, end_step}
use Rattle.plan_model.specs.Sound.{IsSound, IsReady, IsTaken}
use Rattle.plan_model.specs.declared.events.JobNote.{JobNote}
use Rattle.plan_model.specs.declared.events.Event.{Event}
use Rattle.plan_model.specs.declared.events.Event.TheVariants.{Move, Claim, Finish, Publish, Begin, End}
use Rattle.plan_model.specs.declared.events.Answer.TheVariants.{HasWork, Waiting}
use Rattle.plan_sound.specs.Laws.{SoundSteps}
use Rattle.book_plan.specs.Books.{adds}

-- the plan numbers of a state are as those of another, and there is at most one more frame
pub record StaysAt (st : State) (more : ℕ) (next : State) : Type 0 where
  pub plans : (i : ℕ) → (level_at next i).plan ≤ (level_at st i).plan + more
  pub begun : next.begun ≤ st.begun + 1

-- nothing of the levels changed
levels_same : (st next : State) → next.levels ≡ st.levels → next.begun ≤ st.begun + 1 → StaysAt st 0 next
levels_same st next e b = record {
  plans = λ i. let same : (level_at next i).plan ≡ (level_at st i).plan = ap (λ (ls : List Level). (get_or ls i empty_level).plan) e in omega (arith, same);
  begun = b;
}

itself : (st : State) → StaysAt st 0 st
itself st = levels_same st st refl (omega arith)

set_plan : (ls : List Level) (l : ℕ) (new : Level) (i : ℕ) → new.plan ≡ (get_or ls l empty_level).plan → (get_or (set ls l new) i empty_level).plan ≡ (get_or ls i empty_level).plan
set_plan [] l new i e = refl
set_plan (x ∷ ls) zero new zero e = e
set_plan (x ∷ ls) zero new (suc i) e = refl
set_plan (x ∷ ls) (suc l) new zero e = refl
set_plan (x ∷ ls) (suc l) new (suc i) e = set_plan ls l new i e

-- one of two states, by a test
either : (st : State) (more : ℕ) (b : Bool) (x y : Step) → StaysAt st more x.state → StaysAt st more y.state → StaysAt st more (cond b x y).state
either st more true x y a c = a
either st more false x y a c = c

claimed_stays : (st : State) (p : ℕ) (o : Option Offer) → StaysAt st 0 (claimed st p o).state
claimed_stays st p None = itself st
claimed_stays st p (Some offer) = levels_same st (claimed st p (Some offer)).state refl (omega arith)

claim_stays : (st : State) (p : ℕ) → StaysAt st 0 (claim_step st p).state
unfolding claim_step
claim_stays st p =
    either st 0 (has_work (pass_at st p)) (unchanged st HasWork) (claimed st p (first_of (offers st))) (itself st) (claimed_stays st p (first_of (offers st)))

kept_stays : (st : State) (p : ℕ) (job : JobNote) → StaysAt st 0 (kept_job st p job).state
unfolding finished_level
kept_stays st p job = record {
  plans = λ i. let same : (level_at (kept_job st p job).state i).plan ≡ (level_at st i).plan = set_plan st.levels job.level (finished_level (pieces_at st job.level) (level_at st job.level) job.piece) i refl in omega (arith, same);
  begun = omega arith;
}

given_stays : (st : State) (p : ℕ) (o : Option JobNote) → StaysAt st 0 (given_back st p o).state
unfolding finished_job
given_stays st p None = itself st
given_stays st p (Some job) =
    either st 0 (job.plan == (level_at st job.level).plan) (kept_job st p job) (stale_job st p job) (kept_stays st p job) (levels_same st (stale_job st p job).state refl (omega arith))

grown_stays : (st : State) (level : ℕ) (strip : Region) → StaysAt st 0 (grown st level strip).state
grown_stays st level strip = record {
  plans = λ i. let same : (level_at (grown st level strip).state i).plan ≡ (level_at st i).plan = set_plan st.levels level _ i refl in omega (arith, same);
  begun = omega arith;
}

published_stays : (st : State) (level : ℕ) (o : Option Region) → StaysAt st 0 (published st level o).state
published_stays st level None = itself st
published_stays st level (Some strip) =
    either st 0 (length (unfinished_pieces st level) == 0) (grown st level strip) (unchanged st (Waiting (length (unfinished_pieces st level)))) (grown_stays st level strip) (itself st)

begun_stays : (st : State) (p : ℕ) (o : Option LevelTile) → StaysAt st 0 (frame_begun st p o).state
begun_stays st p (Some held) = itself st
begun_stays st p None = levels_same st (frame_begun st p None).state refl (omega arith)

begin_stays : (st : State) (p : ℕ) → StaysAt st 0 (begin_step st p).state
unfolding begin_step
begin_stays st p =
    either st 0 (has_work (pass_at st p)) (unchanged st HasWork) (frame_begun st p (first_of (held_under st (actives_at st)))) (itself st) (begun_stays st p (first_of (held_under st (actives_at st))))

ended_stays : (st : State) (p : ℕ) (o : Option OpenFrame) → StaysAt st 0 (ended st p o).state
ended_stays st p None = itself st
ended_stays st p (Some frame) = levels_same st (ended st p (Some frame)).state refl (omega arith)

-- a move raises a plan number by at most one
moved_plan : (b : Bool) (w : Region) (old : Level) → (moved_level b w old).plan ≤ old.plan + 1
unfolding moved_level
moved_plan true w old = omega arith
moved_plan false w old = omega arith

move_stays : (st : State) (x y : ℤ) (a : ℕ) → StaysAt st 1 (move_step st x y a).state
unfolding move_step
move_stays st x y a = record {
  plans = λ i.
      let made : ℕ → Level = λ level. moved_level (stays st (seen_from st x y a) level) (window_at (seen_from st x y a) level) (level_at st level) in
      elim (cases_lt i (length st.levels)) [
        | inl inside ↦
            let same : get_or (moved_levels st (seen_from st x y a)) i empty_level ≡ made i = get_or-map-range_with_len made 0 (length st.levels) i i empty_level inside (omega arith) in
            subst (λ (it : Level). it.plan ≤ (level_at st i).plan + 1) (sym same) (moved_plan (stays st (seen_from st x y a) i) (window_at (seen_from st x y a) i) (level_at st i))
        | inr past ↦
            let count : length (moved_levels st (seen_from st x y a)) ≡ length st.levels = length-map-range_with_len made 0 (length st.levels) in
            subst (λ (it : Level). it.plan ≤ (level_at st i).plan + 1) (sym (get_or_past (moved_levels st (seen_from st x y a)) i empty_level (omega arith))) (omega arith)
      ];
  begun = omega arith;
}

pub step_stays : (st : State) (p : ℕ) (event : Event) → StaysAt st (adds event) (step st p event).state
unfolding finish_step publish_step end_step
step_stays st p (Move x y a) = move_stays st x y a
step_stays st p Claim = claim_stays st p
step_stays st p Finish = given_stays st p (job_of (pass_at st p))
step_stays st p (Publish level) = published_stays st level (strip_at st level)
step_stays st p Begin = begin_stays st p
step_stays st p End = ended_stays st p (frame_of (pass_at st p))

-- only a frame that begins is counted
same_count : (b : Bool) (x y : Step) (n : ℕ) → x.state.begun ≡ n → y.state.begun ≡ n → (cond b x y).state.begun ≡ n
same_count true x y n a c = a
same_count false x y n a c = c

claimed_count : (st : State) (p : ℕ) (o : Option Offer) → (claimed st p o).state.begun ≡ st.begun
claimed_count st p None = refl
claimed_count st p (Some offer) = refl

given_count : (st : State) (p : ℕ) (o : Option JobNote) → (given_back st p o).state.begun ≡ st.begun
unfolding finished_job
given_count st p None = refl
given_count st p (Some job) =
    same_count (job.plan == (level_at st job.level).plan) (kept_job st p job) (stale_job st p job) st.begun refl refl

published_count : (st : State) (level : ℕ) (o : Option Region) → (published st level o).state.begun ≡ st.begun
published_count st level None = refl
published_count st level (Some strip) =
    same_count (length (unfinished_pieces st level) == 0) (grown st level strip) (unchanged st (Waiting (length (unfinished_pieces st level)))) st.begun refl refl

ended_count : (st : State) (p : ℕ) (o : Option OpenFrame) → (ended st p o).state.begun ≡ st.begun
ended_count st p None = refl
ended_count st p (Some frame) = refl

-- how many frames an event may add
abbrev pub opens : Event → ℕ
opens (Move x y a) = 0
opens Claim = 0
opens Finish = 0
opens (Publish level) = 0
opens Begin = 1
opens End = 0

from_same : (a b : ℕ) → a ≡ b → a ≤ b + 0
from_same a b e = omega arith

pub step_counts : (st : State) (p : ℕ) (event : Event) → (step st p event).state.begun ≤ st.begun + opens event
unfolding claim_step finish_step publish_step end_step move_step
step_counts st p (Move x y a) = omega arith
step_counts st p Claim =
    from_same _ _ (same_count (has_work (pass_at st p)) (unchanged st HasWork) (claimed st p (first_of (offers st))) st.begun refl (claimed_count st p (first_of (offers st))))
step_counts st p Finish = from_same _ _ (given_count st p (job_of (pass_at st p)))
step_counts st p (Publish level) = from_same _ _ (published_count st level (strip_at st level))
step_counts st p Begin = (begin_stays st p).begun
step_counts st p End = from_same _ _ (ended_count st p (frame_of (pass_at st p)))

-- a sound state is sound for each bound on its own numbers
tighten : (m n : ℕ) (st : State) → IsSound m st → st.begun ≤ n → ((level : ℕ) → (level_at st level).plan ≤ n) → IsSound n st
tighten m n st h b plans = record {
  size = h.size;
  many = h.many;
  passes = h.passes;
  viewer = h.viewer;
  levels = λ level there. record { filled = (h.levels level there).filled; plan = plans level };
  begun = b;
  parts = h.parts;
}

one_move : (event : Event) → adds event ≤ 1
one_move (Move x y a) = omega arith
one_move Claim = omega arith
one_move Finish = omega arith
one_move (Publish level) = omega arith
one_move Begin = omega arith
one_move End = omega arith

pub still_ready : SoundSteps → (st : State) (p : ℕ) (event : Event) (moves : ℕ) → IsTaken (length st.levels) event → IsReady st → ((level : ℕ) → (level_at st level).plan ≤ moves) → moves ≤ 2 ^ 40 → st.begun ≤ 2 ^ 40 → IsReady (step st p event).state
still_ready law st p event moves taken h plans few frames =
    let stays : StaysAt st (adds event) (step st p event).state = step_stays st p event in
    tighten (2 ^ 63 + 1) (2 ^ 63) (step st p event).state (law (2 ^ 63) st p event taken h) (omega (arith, stays.begun, frames))
    (λ level.
    let raised : (level_at (step st p event).state level).plan ≤ (level_at st level).plan + adds event = stays.plans level in
    omega (arith, raised, plans level, few, one_move event))
