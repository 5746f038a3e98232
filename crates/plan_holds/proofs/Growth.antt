-- No event changes K or the numbers of levels and passes, or lets a plan number or the count of frames fall.
use Rattle.std.proofs.Common.{◌≡◌, ℕ, ◌≤◌, Bool, ◌==◌, ℤ, List, [], ◌∷◌, length, get_or, length-set, Option, Some, None, refl, ap, sym, ◌∙◌, subst, inl, inr, arith}
use Rattle.std.proofs.lemmas.Bool.{cases_eq, cases_lt, cond_both}
use Rattle.std.proofs.lemmas.List.{get_or-set_same, get_or-set_other, get_or_past}
use Rattle.std.proofs.lemmas.List.FromFn.{length-map-range_with_len, get_or-map-range_with_len}
use Rattle.clip_regions.specs.declared.region.Region.{Region}
use Rattle.plan_model.specs.Window.{window}
use Rattle.plan_model.specs.Strips.{first_of}
use Rattle.plan_model.specs.States.{State, Level, OpenFrame, Pass, empty_level, level_at, pass_at, with_level, with_pass, has_work, job_of, frame_of}
use Rattle.plan_model.specs.Claims.{Offer, offers, strip_at, pieces_at, unfinished_pieces}
use Rattle.plan_model.specs.Steps.{Step, LevelTile, seen_from, stays, moved_level, moved_levels, move_step, claimed, claim_step, finished_level, kept_job, stale_job, finished_job, given_back, finish_step, grown_level, grown, published, publish_step, held_under, actives_at, frame_begun, begin_step, ended, end_step, step}
use Rattle.plan_model.specs.Histories.{state_after}
use Rattle.plan_model.specs.declared.events.JobNote.{JobNote}
use Rattle.plan_model.specs.declared.events.Work.TheVariants.{Free}
use Rattle.plan_model.specs.declared.events.Event.TheVariants.{Move, Claim, Finish, Publish, Begin, End}
use Rattle.plan_holds.specs.Laws.{ComesAfter, StepsGoOn, HistoriesGoOn}
use Rattle.plan_holds.proofs.Members.{set_past}

same : (st : State) → ComesAfter st st
same st = record { size = refl; levels = refl; passes = refl; plans = λ level. omega arith; begun = omega arith }

then : (a b c : State) → ComesAfter a b → ComesAfter b c → ComesAfter a c
then a b c h g = record {
  size = g.size ∙ h.size;
  levels = g.levels ∙ h.levels;
  passes = g.passes ∙ h.passes;
  plans = λ level. let p : (level_at a level).plan ≤ (level_at b level).plan = h.plans level in let q : (level_at b level).plan ≤ (level_at c level).plan = g.plans level in omega arith;
  begun = let p : a.begun ≤ b.begun = h.begun in let q : b.begun ≤ c.begun = g.begun in omega arith;
}

-- another pass
pass_after : (st : State) (p : ℕ) (w : Pass) → ComesAfter st (with_pass st p w)
pass_after st p w = record { size = refl; levels = refl; passes = length-set st.passes p w; plans = λ level. omega arith; begun = omega arith }

-- another level whose plan number is no lower
plan_after : (st : State) (l level : ℕ) (new : Level) → (level_at st l).plan ≤ new.plan → (level_at st level).plan ≤ (level_at (with_level st l new) level).plan
plan_after st l level new h =
    elim (cases_eq level l) [
      | inr other ↦ let it : (level_at (with_level st l new) level).plan ≡ (level_at st level).plan = ap (λ (v : Level). v.plan) (get_or-set_other st.levels l level new empty_level other) in omega arith
      | inl e ↦ elim (cases_lt l (length st.levels)) [
        | inl there ↦
            let it : (level_at (with_level st l new) l).plan ≡ new.plan = ap (λ (v : Level). v.plan) (get_or-set_same st.levels l new empty_level there) in
            subst (λ (n : ℕ). (level_at st n).plan ≤ (level_at (with_level st l new) n).plan) (sym e) (omega arith)
        | inr past ↦ let it : (level_at (with_level st l new) level).plan ≡ (level_at st level).plan = ap (λ (levels : List Level). (get_or levels level empty_level).plan) (set_past st.levels l new past) in omega arith
      ]
    ]

level_after : (st : State) (l : ℕ) (new : Level) → (level_at st l).plan ≤ new.plan → ComesAfter st (with_level st l new)
level_after st l new h = record { size = refl; levels = length-set st.levels l new; passes = refl; plans = λ level. plan_after st l level new h; begun = omega arith }

-- ---- each event
moved_plan : (stays' : Bool) (w : Region) (old : Level) → old.plan ≤ (moved_level stays' w old).plan
unfolding moved_level
moved_plan stays' w old =
    cond_both stays' old _ (λ (v : Level). old.plan ≤ v.plan) (λ _. omega arith) (λ _. omega arith)

plan_moved : (st : State) (x y : ℤ) (a level : ℕ) → (level_at st level).plan ≤ (get_or (moved_levels st (seen_from st x y a)) level empty_level).plan
plan_moved st x y a level =
    elim (cases_lt level (length st.levels)) [
      | inl there ↦
          let it : (get_or (moved_levels st (seen_from st x y a)) level empty_level).plan ≡ (moved_level (stays st (seen_from st x y a) level) (window st.k level x y) (level_at st level)).plan = ap (λ (v : Level). v.plan) (get_or-map-range_with_len (λ n. moved_level (stays st (seen_from st x y a) n) (window st.k n x y) (level_at st n)) 0 (length st.levels) level level empty_level there (omega arith)) in
          let more : (level_at st level).plan ≤ (moved_level (stays st (seen_from st x y a) level) (window st.k level x y) (level_at st level)).plan = moved_plan (stays st (seen_from st x y a) level) (window st.k level x y) (level_at st level) in
          omega arith
      | inr past ↦ let none : (level_at st level).plan ≡ 0 = ap (λ (v : Level). v.plan) (get_or_past st.levels level empty_level past) in omega arith
    ]

move_after : (st : State) (x y : ℤ) (a : ℕ) → ComesAfter st (move_step st x y a).state
unfolding move_step
move_after st x y a = record {
  size = refl;
  levels = length-map-range_with_len (λ n. moved_level (stays st (seen_from st x y a) n) (window st.k n x y) (level_at st n)) 0 (length st.levels);
  passes = refl;
  plans = plan_moved st x y a;
  begun = omega arith;
}

claimed_after : (st : State) (p : ℕ) (offer : Option Offer) → ComesAfter st (claimed st p offer).state
claimed_after st p None = same st
claimed_after st p (Some offer) = pass_after st p _

claim_after : (st : State) (p : ℕ) → ComesAfter st (claim_step st p).state
unfolding claim_step
claim_after st p =
    cond_both (has_work (pass_at st p)) _ _ (λ (s : Step). ComesAfter st s.state) (λ _. same st) (λ _. claimed_after st p (first_of (offers st)))

kept_after : (st : State) (p : ℕ) (job : JobNote) → ComesAfter st (kept_job st p job).state
unfolding finished_level
kept_after st p job =
    then st (with_pass st p Free) _ (pass_after st p Free) (level_after (with_pass st p Free) job.level (finished_level (pieces_at st job.level) (level_at st job.level) job.piece) (omega arith))

finished_after : (st : State) (p : ℕ) (job : JobNote) → ComesAfter st (finished_job st p job).state
unfolding finished_job
finished_after st p job =
    cond_both (job.plan == (level_at st job.level).plan) (kept_job st p job) (stale_job st p job) (λ (s : Step). ComesAfter st s.state) (λ _. kept_after st p job) (λ _. pass_after st p Free)

given_after : (st : State) (p : ℕ) (job : Option JobNote) → ComesAfter st (given_back st p job).state
given_after st p None = same st
given_after st p (Some job) = finished_after st p job

published_after : (st : State) (l : ℕ) (strip : Option Region) → ComesAfter st (published st l strip).state
published_after st l None = same st
published_after st l (Some strip) =
    cond_both (length (unfinished_pieces st l) == 0) (grown st l strip) _ (λ (s : Step). ComesAfter st s.state) (λ _. level_after st l (grown_level (level_at st l) strip) (omega arith)) (λ _. same st)

begun_after : (st : State) (p : ℕ) (held : Option LevelTile) → ComesAfter st (frame_begun st p held).state
begun_after st p None = record { size = refl; levels = refl; passes = length-set st.passes p _; plans = λ level. omega arith; begun = omega arith }
begun_after st p (Some held) = same st

begin_after : (st : State) (p : ℕ) → ComesAfter st (begin_step st p).state
unfolding begin_step
begin_after st p =
    cond_both (has_work (pass_at st p)) _ _ (λ (s : Step). ComesAfter st s.state) (λ _. same st) (λ _. begun_after st p (first_of (held_under st (actives_at st))))

ended_after : (st : State) (p : ℕ) (frame : Option OpenFrame) → ComesAfter st (ended st p frame).state
ended_after st p None = same st
ended_after st p (Some frame) = pass_after st p Free

pub steps_go_on : StepsGoOn
unfolding finish_step publish_step end_step
steps_go_on st p (Move x y a) = move_after st x y a
steps_go_on st p Claim = claim_after st p
steps_go_on st p Finish = given_after st p (job_of (pass_at st p))
steps_go_on st p (Publish level) = published_after st level (strip_at st level)
steps_go_on st p Begin = begin_after st p
steps_go_on st p End = ended_after st p (frame_of (pass_at st p))

pub histories_go_on : StepsGoOn → HistoriesGoOn
unfolding state_after
histories_go_on on st [] = same st
histories_go_on on st (e ∷ rest) =
    then st (step st e.pass e.event).state _ (on st e.pass e.event) (histories_go_on on (step st e.pass e.event).state rest)
