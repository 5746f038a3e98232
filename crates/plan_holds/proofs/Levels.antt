-- The events that change one level: a job that is given back and kept, and a publication.
use Rattle.std.proofs.Common.{◌≡◌, ℕ, ◌<◌, ◌≤◌, true, cond, not, ◌==◌, nat_le, List, [], ◌∷◌, length, length-set, Option, Some, None, refl, ap, sym, ◌∙◌, subst, inl, inr, arith}
use Rattle.std.proofs.lemmas.Bool.{cases_eq, cases_lt, cond_both, eqb-true, not_from_false, true_from_ne_false}
use Rattle.std.proofs.lemmas.List.{get_or-set_same, get_or-set_other}
use Rattle.clip_regions.specs.declared.region.Region.{Region}
use Rattle.plan_model.specs.Strips.{current_strip}
use Rattle.plan_model.specs.States.{State, Level, empty_level, level_at, pass_at, with_level, with_pass, window_at, finest_used, is_used, job_of}
use Rattle.plan_model.specs.Claims.{strip_at, strip_pieces, pieces_at, unfinished_pieces, is_finished}
use Rattle.plan_model.specs.Steps.{Step, finished_level, kept_job, stale_job, finished_job, given_back, finish_step, grown_level, grown, published, publish_step}
use Rattle.plan_model.specs.declared.tiles.Piece.{Piece}
use Rattle.plan_model.specs.declared.events.JobNote.{JobNote}
use Rattle.plan_model.specs.declared.events.Work.TheVariants.{Free}
use Rattle.plan_holds.specs.Kept.{HasJob}
use Rattle.plan_holds.proofs.Members.{Among, passing, set_past}
use Rattle.plan_holds.proofs.Places.{Known}
use Rattle.plan_holds.proofs.Parts.{LevelNow, IsFirst, KeepsLevel, KeepsJob, tile, one_more, more_kept, other_job, grown_by, AreDone, grown_kept, grown_job}
use Rattle.plan_holds.proofs.Tiles.{job_there}
use Rattle.plan_holds.proofs.Core.{now, Core}
use Rattle.plan_holds.proofs.Passes.{freed_job, freed}

-- ---- a state with another level
-- a level by what decides its strip
unfoldable pub level_by : ℕ → ℕ → ℕ → ℕ → Region → Level → LevelNow
level_by k count altitude level window it = record {
  filled = it.filled;
  finished = it.finished;
  plan = it.plan;
  window = window;
  strip = cond (nat_le (finest_used k count altitude) level) (current_strip it.filled window) None;
}

pub now_is : (st : State) (level : ℕ) → now st level ≡ level_by st.k (length st.levels) st.altitude level (window_at st level) (level_at st level)
unfolding level_by strip_at is_used
now_is st level = refl

now_with : (st : State) (l level : ℕ) (new : Level) → now (with_level st l new) level ≡ level_by st.k (length st.levels) st.altitude level (window_at st level) (level_at (with_level st l new) level)
now_with st l level new =
    now_is (with_level st l new) level ∙ ap (λ (n : ℕ). level_by st.k n st.altitude level (window_at st level) (level_at (with_level st l new) level)) (length-set st.levels l new)

-- the other levels are as they were
now_other : (st : State) (l level : ℕ) (new : Level) → (level ≡ l → ⊥) → now (with_level st l new) level ≡ now st level
now_other st l level new other =
    now_with st l level new ∙ ap (level_by st.k (length st.levels) st.altitude level (window_at st level)) (get_or-set_other st.levels l level new empty_level other) ∙ sym (now_is st level)

-- the level is the new one
now_new : (st : State) (l : ℕ) (new : Level) → l < length st.levels → now (with_level st l new) l ≡ level_by st.k (length st.levels) st.altitude l (window_at st l) new
now_new st l new h =
    now_with st l l new ∙ ap (level_by st.k (length st.levels) st.altitude l (window_at st l)) (get_or-set_same st.levels l new empty_level h)

-- what a change of one level has to keep
record KeepsChange (st : State) (l : ℕ) (new : Level) : Type 0 where
  it : KeepsLevel st.k (now (with_level st l new) l)
  jobs : (p : ℕ) (job : JobNote) → HasJob st p job → job.level ≡ l → KeepsJob st.k (now (with_level st l new) job.level) job

changed : (st : State) (l : ℕ) (new : Level) → Core st → KeepsChange st l new → Core (with_level st l new)
changed st l new core keeps = record {
  size = core.size;
  levels = λ level h. elim (cases_eq level l) [
    | inl same ↦ subst (λ (n : ℕ). KeepsLevel st.k (now (with_level st l new) n)) (sym same) keeps.it
    | inr other ↦ subst (KeepsLevel st.k) (sym (now_other st l level new other)) (core.levels level (subst (λ (n : ℕ). level < n) (length-set st.levels l new) h))
  ];
  there = λ p job e. subst (λ (n : ℕ). job.level < n) (sym (length-set st.levels l new)) (core.there p job e);
  jobs = λ p job e. elim (cases_eq job.level l) [
    | inl same ↦ keeps.jobs p job e same
    | inr other ↦ subst (λ (v : LevelNow). KeepsJob st.k v job) (sym (now_other st l job.level new other)) (core.jobs p job e)
  ];
  once = core.once;
  unpinned = core.unpinned;
  number = core.number;
  one_frame = core.one_frame;
}

-- ---- a job that is given back
-- the level with the piece finished
abbrev finished_at : State → JobNote → Level
finished_at st job = finished_level (pieces_at st job.level) (level_at st job.level) job.piece

one_more_now : (st : State) (job : JobNote) → job.level < length st.levels → now (with_level st job.level (finished_at st job)) job.level ≡ one_more (now st job.level) job.piece
unfolding finished_level level_by strip_at is_used
one_more_now st job h = now_new st job.level (finished_at st job) h

-- where no other pass holds the job's tile, finishing its piece keeps all that holds
more_core : Known → (st : State) (job : JobNote) → job.level < length st.levels → Core st → ((p : ℕ) (other : JobNote) → HasJob st p other → other.level ≡ job.level → tile st.k job.piece ≡ tile st.k other.piece → ⊥) → Core (with_level st job.level (finished_at st job))
more_core known st job h core alone =
    changed st job.level (finished_at st job) core (record {
      it = subst (KeepsLevel st.k) (sym (one_more_now st job h)) (more_kept known st.k (now st job.level) job.piece (core.levels job.level h));
      jobs = λ p other e same. subst (λ (v : LevelNow). KeepsJob st.k v other) (sym (ap (now (with_level st job.level (finished_at st job))) same ∙ one_more_now st job h)) (other_job st.k (now st job.level) job.piece other (alone p other e same) (subst (λ (n : ℕ). KeepsJob st.k (now st n) other) same (core.jobs p other e)));
    })

same_pieces : (st : State) (p level : ℕ) → pieces_at (with_pass st p Free) level ≡ pieces_at st level
unfolding strip_at is_used
same_pieces st p level = refl

kept_is : (st : State) (p : ℕ) (job : JobNote) → with_level (with_pass st p Free) job.level (finished_at (with_pass st p Free) job) ≡ (kept_job st p job).state
kept_is st p job =
    ap (λ (all : List Piece). with_level (with_pass st p Free) job.level (finished_level all (level_at st job.level) job.piece)) (same_pieces st p job.level)

kept_core : Known → (st : State) (p : ℕ) (job : JobNote) → HasJob st p job → Core st → Core (kept_job st p job).state
kept_core known st p job h core =
    let there : p < length st.passes = job_there st p job h in
    subst Core (kept_is st p job) (more_core known (with_pass st p Free) job (core.there p job h) (freed st p core) (λ q other e same t. let old : (q ≡ p → ⊥) × HasJob st q other = freed_job st p q other there e in old.0 (core.once q p other job old.1 h same (sym t))))

finished_core : Known → (st : State) (p : ℕ) (job : JobNote) → HasJob st p job → Core st → Core (finished_job st p job).state
unfolding finished_job
finished_core known st p job h core =
    cond_both (job.plan == (level_at st job.level).plan) (kept_job st p job) (stale_job st p job) (λ (s : Step). Core s.state) (λ _. kept_core known st p job h core) (λ _. freed st p core)

given_core : Known → (st : State) (p : ℕ) (job : Option JobNote) → job_of (pass_at st p) ≡ job → Core st → Core (given_back st p job).state
given_core known st p None h core = core
given_core known st p (Some job) h core = finished_core known st p job h core

pub finish_core : Known → (st : State) (p : ℕ) → Core st → Core (finish_step st p).state
unfolding finish_step
finish_core known st p core = given_core known st p (job_of (pass_at st p)) refl core

-- ---- a publication
-- the next strip of the level
next_strip : State → ℕ → Region → Option Region
next_strip st l s = (level_by st.k (length st.levels) st.altitude l (window_at st l) (grown_level (level_at st l) s)).strip

grown_now : (st : State) (l : ℕ) (s : Region) → l < length st.levels → now (with_level st l (grown_level (level_at st l) s)) l ≡ grown_by (now st l) s (next_strip st l s)
unfolding next_strip level_by
grown_now st l s h = now_new st l (grown_level (level_at st l) s) h

pub first_by : (k count altitude level : ℕ) (window : Region) (it : Level) → IsFirst (level_by k count altitude level window it)
unfolding level_by
first_by k count altitude level window it s =
    cond_both (nat_le (finest_used k count altitude) level) (current_strip it.filled window) None (λ (o : Option Region). o ≡ Some s → current_strip it.filled window ≡ Some s) (λ used. λ (e : current_strip it.filled window ≡ Some s). e) (λ left_out. λ (e : None ≡ Some s). absurd (cc))

first_grown : (st : State) (l : ℕ) (s : Region) → IsFirst (grown_by (now st l) s (next_strip st l s))
unfolding next_strip level_by
first_grown st l s = first_by st.k (length st.levels) st.altitude l (window_at st l) (grown_level (level_at st l) s)

none_left : {X : Type 0} (xs : List X) (x : X) → (length xs == 0) ≡ true → Among x xs → ⊥
none_left [] x e h = h
none_left (y ∷ ys) x e h = let none : length (y ∷ ys) ≡ 0 = eqb-true (length (y ∷ ys)) 0 e in absurd (omega arith)

pub all_done : (st : State) (l : ℕ) (s : Region) → strip_at st l ≡ Some s → (length (unfinished_pieces st l) == 0) ≡ true → AreDone (now st l) s
unfolding unfinished_pieces
all_done st l s e none q h =
    true_from_ne_false (is_finished (level_at st l).finished q) (λ new. none_left (unfinished_pieces st l) q none (passing (λ piece. not (is_finished (level_at st l).finished piece)) (pieces_at st l) q (subst (λ (o : Option Region). Among q (strip_pieces o)) (sym e) h) (not_from_false (is_finished (level_at st l).finished q) new)))

grown_there : Known → (st : State) (l : ℕ) (s : Region) → l < length st.levels → Core st → strip_at st l ≡ Some s → AreDone (now st l) s → Core (grown st l s).state
grown_there known st l s h core e done =
    changed st l (grown_level (level_at st l) s) core (record {
      it = subst (KeepsLevel st.k) (sym (grown_now st l s h)) (grown_kept known st.k (now st l) s (next_strip st l s) (core.levels l h) e (first_grown st l s));
      jobs = λ p job g same.
          let large : 4 ≤ st.k = core.size.low in
          subst (λ (v : LevelNow). KeepsJob st.k v job) (sym (ap (now (with_level st l (grown_level (level_at st l) s))) same ∙ grown_now st l s h)) (grown_job known st.k (now st l) s (next_strip st l s) job (omega arith) (core.levels l h) e done (subst (λ (n : ℕ). KeepsJob st.k (now st n) job) same (core.jobs p job g)));
    })

-- a level that isn't there stays away
pub absent : (st : State) (l : ℕ) (new : Level) → length st.levels ≤ l → with_level st l new ≡ st
absent st l new h = ap (λ (levels : List Level). record st { levels = levels }) (set_past st.levels l new h)

grown_core : Known → (st : State) (l : ℕ) (s : Region) → Core st → strip_at st l ≡ Some s → AreDone (now st l) s → Core (grown st l s).state
grown_core known st l s core e done =
    elim (cases_lt l (length st.levels)) [
      | inl h ↦ grown_there known st l s h core e done
      | inr past ↦ subst Core (sym (absent st l (grown_level (level_at st l) s) past)) core
    ]

published_core : Known → (st : State) (l : ℕ) (strip : Option Region) → Core st → strip_at st l ≡ strip → Core (published st l strip).state
published_core known st l None core e = core
published_core known st l (Some s) core e =
    cond_both (length (unfinished_pieces st l) == 0) _ _ (λ (step : Step). Core step.state) (λ none. grown_core known st l s core e (all_done st l s e none)) (λ _. core)

pub publish_core : Known → (st : State) (l : ℕ) → Core st → Core (publish_step st l).state
unfolding publish_step
publish_core known st l core = published_core known st l (strip_at st l) core refl
