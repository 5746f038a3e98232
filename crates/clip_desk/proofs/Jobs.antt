-- The filled jobs of a book's passes after each kind of event.
use Rattle.std.proofs.Common.{◌≡◌, ℕ, zero, suc, ◌<◌, replicate, true, false, ℤ, List, length, length-set, get_or, set, Option, Some, None, is_some, refl, ap, sym, ◌∙◌, subst, inl, inr, arith}
use Rattle.std.proofs.lemmas.Bool.{cases_eq, cond_both, true≢false}
use Rattle.std.proofs.lemmas.List.{get_or-set_same, get_or-set_other}
use Rattle.std.specs.Prelude.{IsSomeAnd}
use Rattle.plan_model.specs.States.{State, Pass, OpenFrame, start_state, pass_at, job_of, frame_of, has_work}
use Rattle.plan_model.specs.Steps.{Step, LevelTile, unchanged, step, given_back, finish_step, next_frame, frame_begun, begin_step, ended, end_step}
use Rattle.plan_model.specs.Laws.{RefusalsChangeNothing, is_refusal}
use Rattle.plan_model.specs.declared.events.JobNote.{JobNote}
use Rattle.plan_model.specs.declared.events.Event.{Event}
use Rattle.plan_model.specs.declared.events.Event.TheVariants.{Claim, Finish, Begin, End}
use Rattle.plan_model.specs.declared.events.Answer.{Answer}
use Rattle.plan_model.specs.declared.events.Answer.TheVariants.{Idle, HasWork}
use Rattle.plan_model.specs.declared.events.Work.TheVariants.{Free, Draws}
use Rattle.plan_flights.proofs.Parts.{none_of, there_with_job, finish_free}
use Rattle.plan_histories.specs.Parts.{OthersKeepParts}
use Rattle.book_plan.specs.Books.{PlanView}
use Rattle.book_cells.specs.Cells.{IsPainted}
use Rattle.terrain_store.specs.Shapes.{Land}
use Rattle.clip_book.specs.Tiles.{handed_to}
use Rattle.clip_book.specs.Jobs.{FilledView}
use Rattle.clip_book.specs.Books.{BookView, Does, IsFilledOf, started}
use Rattle.clip_desk.specs.Desks.{HasJobs, Takes}

-- what follows for what an option has
some_and : {A : Type 0} (P Q : A → Type 0) (o : Option A) → ((a : A) → P a → Q a) → IsSomeAnd o P → IsSomeAnd o Q
some_and P Q None f h = absurd h
some_and P Q (Some a) f h = f a h

-- a pass has the part that it had, and was handed the tile that it was handed
pub record SamePass (old new : BookView) (q : ℕ) : Type 0 where
  pub part : pass_at new.plan.state q ≡ pass_at old.plan.state q
  pub handed : handed_to new.handed q ≡ handed_to old.handed q

module _ (old new : BookView) (land : new.land ≡ old.land) where
  filled_stays : (q : ℕ) (filled : FilledView) → SamePass old new q → IsFilledOf old q filled → IsFilledOf new q filled
  filled_stays q filled same h = record {
    land = h.land ∙ sym land;
    note = ap job_of same.part ∙ h.note;
    painted =
        subst (λ (l : Land). IsPainted l.terrain filled.note.level filled.note.piece.cells (handed_to new.handed q) filled.tile) (sym land)
        (subst (λ (heights : List ℤ). IsPainted old.land.terrain filled.note.level filled.note.piece.cells heights filled.tile) (sym same.handed) h.painted);
  }

  -- the job of a pass that stays
  job_stays : (jobs : List (Option FilledView)) (q : ℕ) → HasJobs old jobs → q < 16 → SamePass old new q → is_some (job_of (pass_at new.plan.state q)) ≡ true →
      IsSomeAnd (get_or jobs q None) (IsFilledOf new q)
  job_stays jobs q h small same has =
      some_and (IsFilledOf old q) (IsFilledOf new q) (get_or jobs q None) (λ (filled : FilledView). filled_stays q filled same)
      (h.filled q small (ap (λ (pass : Pass). is_some (job_of pass)) (sym same.part) ∙ has))

  -- all passes but one stay, and that one has what it should
  jobs_but : (jobs jobs' : List (Option FilledView)) (p : ℕ) → HasJobs old jobs → length jobs' ≡ 16 → ((q : ℕ) → ¬ (q ≡ p) → SamePass old new q) →
      ((q : ℕ) → ¬ (q ≡ p) → get_or jobs' q None ≡ get_or jobs q None) →
      (p < 16 → is_some (job_of (pass_at new.plan.state p)) ≡ true → IsSomeAnd (get_or jobs' p None) (IsFilledOf new p)) → HasJobs new jobs'
  jobs_but jobs jobs' p h many same others here = record { many = many; filled = λ q small has. at q small has } where
    at : (q : ℕ) → q < 16 → is_some (job_of (pass_at new.plan.state q)) ≡ true → IsSomeAnd (get_or jobs' q None) (IsFilledOf new q)
    at q small has =
        elim (cases_eq q p) [
          | inl e ↦ subst (λ (r : ℕ). IsSomeAnd (get_or jobs' r None) (IsFilledOf new r)) (sym e) (here (subst (λ (r : ℕ). r < 16) e small) (subst (λ (r : ℕ). is_some (job_of (pass_at new.plan.state r)) ≡ true) e has))
          | inr apart ↦ subst (λ (o : Option FilledView). IsSomeAnd o (IsFilledOf new q)) (sym (others q apart)) (job_stays jobs q h small (same q apart) has)
        ]

  -- every pass stays
  pub jobs_all : (jobs : List (Option FilledView)) → HasJobs old jobs → new.plan.state.passes ≡ old.plan.state.passes → new.handed ≡ old.handed → HasJobs new jobs
  jobs_all jobs h passes handed = record {
    many = h.many;
    filled = λ q small has. job_stays jobs q h small (record { part = ap (λ (ps : List Pass). get_or ps q Free) passes; handed = ap (λ hs. handed_to hs q) handed }) has;
  }

  -- no tile is handed, and a pass that has a job after the event had it before
  pub jobs_quiet : (jobs : List (Option FilledView)) (p : ℕ) → HasJobs old jobs → new.handed ≡ old.handed →
      ((q : ℕ) → ¬ (p ≡ q) → pass_at new.plan.state q ≡ pass_at old.plan.state q) →
      (is_some (job_of (pass_at new.plan.state p)) ≡ true → pass_at new.plan.state p ≡ pass_at old.plan.state p) → HasJobs new jobs
  jobs_quiet jobs p h handed others here =
      jobs_but jobs jobs p h h.many (λ q apart. record { part = others q (λ e. apart (sym e)); handed = ap (λ hs. handed_to hs q) handed }) (λ q apart. refl)
      (λ small has. job_stays jobs p h small (record { part = here has; handed = ap (λ hs. handed_to hs p) handed }) has)

  -- the place of one pass is changed
  pub jobs_set : (jobs : List (Option FilledView)) (p : ℕ) (filled : Option FilledView) → HasJobs old jobs → ((q : ℕ) → ¬ (q ≡ p) → SamePass old new q) → p < 16 →
      (is_some (job_of (pass_at new.plan.state p)) ≡ true → IsSomeAnd filled (IsFilledOf new p)) → HasJobs new (set jobs p filled)
  jobs_set jobs p filled h same small here =
      jobs_but jobs (set jobs p filled) p h (length-set jobs p filled ∙ h.many) same (λ q apart. get_or-set_other jobs p q filled None apart)
      (λ _ has. subst (λ (o : Option FilledView). IsSomeAnd o (IsFilledOf new p)) (sym (get_or-set_same jobs p filled None (subst (λ (n : ℕ). p < n) (sym h.many) small))) (here has))

-- ---- the events

-- other passes than the acting one stay
others_stay : OthersKeepParts → (p : ℕ) (event : Event) (answer : Answer) (old new : BookView) → Does p event answer old new → (q : ℕ) → ¬ (q ≡ p) → SamePass old new q
others_stay keep p event answer old new does q apart = record {
  part = ap (λ (st : State). pass_at st q) does.plan.state ∙ keep old.plan.state p q event (λ e. apart (sym e));
  handed = does.others q apart;
}

-- a claim that is refused
pub refused_claim : RefusalsChangeNothing → (p : ℕ) (answer : Answer) (old new : BookView) (jobs : List (Option FilledView)) → is_refusal answer ≡ true →
    Does p Claim answer old new → new.handed ≡ old.handed → HasJobs old jobs → HasJobs new jobs
refused_claim refusals p answer old new jobs refusal does handed h =
    let same : new.plan.state ≡ old.plan.state = does.plan.state ∙ refusals old.plan.state p Claim (ap is_refusal does.plan.answered ∙ refusal) in
    jobs_all old new does.land jobs h (ap (λ (st : State). st.passes) same) handed

-- a claim that gave a job, filled
pub given_claim : OthersKeepParts → (p : ℕ) (answer : Answer) (old new : BookView) (jobs : List (Option FilledView)) (filled : FilledView) → p < 16 →
    Does p Claim answer old new → IsFilledOf new p filled → HasJobs old jobs → HasJobs new (set jobs p (Some filled))
given_claim keep p answer old new jobs filled small does is h =
    jobs_set old new does.land jobs p (Some filled) h (others_stay keep p Claim answer old new does) small (λ _. is)

-- a job that was given back
pub given_finish : OthersKeepParts → (p : ℕ) (answer : Answer) (old new : BookView) (jobs : List (Option FilledView)) → p < 16 → Does p Finish answer old new →
    is_some (job_of (pass_at old.plan.state p)) ≡ true → HasJobs old jobs → HasJobs new (set jobs p None)
given_finish keep p answer old new jobs small does had h =
    jobs_set old new does.land jobs p None h (others_stay keep p Finish answer old new does) small
    (λ has. absurd (true≢false (sym has ∙ ap (λ (pass : Pass). is_some (job_of pass)) (ap (λ (st : State). pass_at st p) does.plan.state ∙ finish_free old.plan.state p had))))

-- a beginning and an end leave a pass that has a job after them
begun_leaves : (st : State) (p : ℕ) (o : Option LevelTile) → is_some (job_of (pass_at (frame_begun st p o).state p)) ≡ true → pass_at (frame_begun st p o).state p ≡ pass_at st p
begun_leaves st p (Some held) has = refl
begun_leaves st p None has =
    let there : p < length st.passes = subst (λ (n : ℕ). p < n) (length-set st.passes p (Draws (next_frame st))) (there_with_job (set st.passes p (Draws (next_frame st))) p has) in
    absurd (true≢false (sym has ∙ ap (λ (pass : Pass). is_some (job_of pass)) (get_or-set_same st.passes p (Draws (next_frame st)) Free there)))

pub begin_leaves : (st : State) (p : ℕ) → is_some (job_of (pass_at (begin_step st p).state p)) ≡ true → pass_at (begin_step st p).state p ≡ pass_at st p
unfolding begin_step
begin_leaves st p =
    cond_both (has_work (pass_at st p)) (unchanged st HasWork) (frame_begun st p _) (λ (next : Step). is_some (job_of (pass_at next.state p)) ≡ true → pass_at next.state p ≡ pass_at st p)
    (λ _ _. refl) (λ _. begun_leaves st p _)

ended_leaves : (st : State) (p : ℕ) (o : Option OpenFrame) → is_some (job_of (pass_at (ended st p o).state p)) ≡ true → pass_at (ended st p o).state p ≡ pass_at st p
ended_leaves st p None has = refl
ended_leaves st p (Some frame) has =
    let there : p < length st.passes = subst (λ (n : ℕ). p < n) (length-set st.passes p Free) (there_with_job (set st.passes p Free) p has) in
    absurd (true≢false (sym has ∙ ap (λ (pass : Pass). is_some (job_of pass)) (get_or-set_same st.passes p Free Free there)))

pub end_leaves : (st : State) (p : ℕ) → is_some (job_of (pass_at (end_step st p).state p)) ≡ true → pass_at (end_step st p).state p ≡ pass_at st p
unfolding end_step
end_leaves st p = ended_leaves st p (frame_of (pass_at st p))

-- an event that hands no tile, after which a pass with a job had it before
quiet : OthersKeepParts → (p : ℕ) (event : Event) (answer : Answer) (old new : BookView) (jobs : List (Option FilledView)) → Does p event answer old new → new.handed ≡ old.handed →
    (is_some (job_of (pass_at (step old.plan.state p event).state p)) ≡ true → pass_at (step old.plan.state p event).state p ≡ pass_at old.plan.state p) → HasJobs old jobs → HasJobs new jobs
quiet keep p event answer old new jobs does handed leaves h =
    jobs_quiet old new does.land jobs p h handed (λ q apart. ap (λ (st : State). pass_at st q) does.plan.state ∙ keep old.plan.state p q event apart)
    (λ has. ap (λ (st : State). pass_at st p) does.plan.state ∙ leaves (ap (λ (st : State). is_some (job_of (pass_at st p))) (sym does.plan.state) ∙ has))

pub begun_jobs : OthersKeepParts → (p : ℕ) (answer : Answer) (old new : BookView) (jobs : List (Option FilledView)) → Does p Begin answer old new → new.handed ≡ old.handed → HasJobs old jobs → HasJobs new jobs
begun_jobs keep p answer old new jobs does handed h = quiet keep p Begin answer old new jobs does handed (begin_leaves old.plan.state p) h

pub ended_jobs : OthersKeepParts → (p : ℕ) (answer : Answer) (old new : BookView) (jobs : List (Option FilledView)) → Does p End answer old new → new.handed ≡ old.handed → HasJobs old jobs → HasJobs new jobs
ended_jobs keep p answer old new jobs does handed h = quiet keep p End answer old new jobs does handed (end_leaves old.plan.state p) h

-- ---- events that aren't handed on to the book
idle_step : (st : State) (p : ℕ) (job : Option JobNote) → job ≡ None → given_back st p job ≡ unchanged st Idle
idle_step st p job e = ap (given_back st p) e

pub no_finish : (p : ℕ) (v : BookView) → is_some (job_of (pass_at v.plan.state p)) ≡ false → Takes p Finish Idle v v
unfolding finish_step
no_finish p v none =
    let is : given_back v.plan.state p (job_of (pass_at v.plan.state p)) ≡ unchanged v.plan.state Idle = idle_step v.plan.state p (job_of (pass_at v.plan.state p)) (none_of (job_of (pass_at v.plan.state p)) none) in
    record { plan = record { state = ap (λ (s : Step). s.state) (sym is); answered = ap (λ (s : Step). s.answer) is; moves = omega arith }; land = refl }

-- ---- the start
all_one : {X : Type 0} (n i : ℕ) (x : X) → get_or (replicate n x) i x ≡ x
all_one zero i x = refl
all_one (suc n) zero x = refl
all_one (suc n) (suc i) x = all_one n i x

-- a book at the start has no jobs
pub start_jobs : (k : ℕ) (land : Land) (book : BookView) (jobs : List (Option FilledView)) → book.plan ≡ started k land → jobs ≡ replicate 16 None → HasJobs book jobs
unfolding start_state
start_jobs k land book jobs start none = record {
  many = ap length none;
  filled = λ p _ has. absurd (true≢false (sym has ∙ ap (λ (plan : PlanView). is_some (job_of (pass_at plan.state p))) start ∙ ap (λ (pass : Pass). is_some (job_of pass)) (all_one 16 p Free)));
}
