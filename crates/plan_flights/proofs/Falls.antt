-- What is left to do falls: no step of a round raises it on any level, and a new piece that is kept lowers it.
use Rattle.std.proofs.Common.{◌≡◌, ℕ, ◌+◌, ◌-◌, ◌<◌, ◌≤◌, ◌==◌, true, List, length, length-set, get_or, Option, Some, None, refl, ap, sym, ◌∙◌, subst, inl, inr, arith}
use Rattle.std.proofs.lemmas.Bool.{cond_both, cond-true, cases_eq, eq-eqb}
use Rattle.std.specs.List.{sum_by}
use Rattle.std.specs.Option.{is_some}
use Rattle.plan_model.specs.Strips.{first_of}
use Rattle.plan_model.specs.States.{State, Level, Pass, OpenFrame, empty_level, level_at, pass_at, finest_at, levels_used, job_of, frame_of, has_work}
use Rattle.plan_model.specs.Claims.{Offer, offers}
use Rattle.plan_model.specs.Steps.{Step, claimed, claim_step, kept_job, stale_job, finished_job, given_back, finish_step, publish_step, ended, end_step}
use Rattle.plan_model.specs.Sound.{IsSoundPass}
use Rattle.plan_model.specs.Histories.{Run, then_step}
use Rattle.plan_model.specs.Rounds.{frame_pass, is_ripe}
use Rattle.plan_model.specs.declared.events.JobNote.{JobNote}
use Rattle.plan_model.specs.declared.events.Event.TheVariants.{Claim, Finish, Publish, End}
use Rattle.plan_model.specs.declared.events.Work.TheVariants.{Free, Fills, Draws}
use Rattle.plan_flights.specs.Below.{LawsBelow}
use Rattle.plan_flights.proofs.Lists.{sum_fewer}
use Rattle.plan_flights.proofs.Parts.{IsSomeSound, sound_after, there_with_job}
use Rattle.plan_flights.proofs.Views.{SameView, view_then, levels_same, view_claim, view_finish, view_publish, view_end}
use Rattle.plan_flights.proofs.Ripe.{IsRipe, ripe_is, ripe_there, other_published}
use Rattle.plan_flights.proofs.Left.{left, total, left_same, left_published, left_kept, IsNew, left_new, other_kept}
use Rattle.plan_flights.proofs.Phases.{Closed}

-- ---- no more is left, and less
pub record NoMore (a b : State) : Type 0 where
  pub view : SameView a b
  pub each : (level : ℕ) → level < length a.levels → left b level ≤ left a level

pub record Less (a b : State) : Type 0 where
  pub view : SameView a b
  pub each : (level : ℕ) → level < length a.levels → left b level ≤ left a level
  pub place : ℕ
  pub low : finest_at a ≤ place
  pub high : place < length a.levels
  pub fewer : left b place + 1 ≤ left a place

along : (a b c : State) → NoMore b c → SameView a b → (level : ℕ) → level < length a.levels → left c level ≤ left b level
along a b c h v level there =
    let count : length b.levels ≡ length a.levels = v.count in
    h.each level (omega arith)

pub no_more_then : (a b c : State) → NoMore a b → NoMore b c → NoMore a c
no_more_then a b c h k = record {
  view = view_then a b c h.view k.view;
  each = λ (level : ℕ) (there : level < length a.levels).
      let first : left b level ≤ left a level = h.each level there in
      let second : left c level ≤ left b level = along a b c k h.view level there in
      omega (arith, first, second);
}

pub less_then : (a b c : State) → Less a b → NoMore b c → Less a c
less_then a b c h k = record {
  view = view_then a b c h.view k.view;
  each = λ (level : ℕ) (there : level < length a.levels).
      let first : left b level ≤ left a level = h.each level there in
      let second : left c level ≤ left b level = along a b c k h.view level there in
      omega (arith, first, second);
  place = h.place;
  low = h.low;
  high = h.high;
  fewer =
      let first : left b h.place + 1 ≤ left a h.place = h.fewer in
      let second : left c h.place ≤ left b h.place = along a b c k h.view h.place h.high in
      omega (arith, first, second);
}

pub total_less : (a b : State) → Less a b → total b + 1 ≤ total a
unfolding total
total_less a b h =
    let low : finest_at a ≤ h.place = h.low in
    let high : h.place < length a.levels = h.high in
    let sums : sum_by (left b) (levels_used a) + 1 ≤ sum_by (left a) (levels_used a) = sum_fewer (left b) (left a) (finest_at a) (length a.levels - finest_at a) h.place (λ (level : ℕ) (l : finest_at a ≤ level) (k : level < finest_at a + (length a.levels - finest_at a)). h.each level (omega arith)) low (omega arith) h.fewer in
    subst (λ (levels : List ℕ). sum_by (left b) levels + 1 ≤ sum_by (left a) (levels_used a)) (sym (levels_same a b h.view)) sums

-- ---- steps that leave the levels
levels_stay : (a b : State) → SameView a b → b.levels ≡ a.levels → NoMore a b
levels_stay a b v e = record {
  view = v;
  each = λ (level : ℕ) (there : level < length a.levels).
      let same : left b level ≡ left a level = left_same a b level v (ap (λ (ls : List Level). get_or ls level empty_level) e) in
      omega (arith, same);
}

claimed_levels : (st : State) (p : ℕ) (offer : Option Offer) → (claimed st p offer).state.levels ≡ st.levels
claimed_levels st p None = refl
claimed_levels st p (Some offer) = refl

pub claim_levels : (st : State) (p : ℕ) → (claim_step st p).state.levels ≡ st.levels
unfolding claim_step
claim_levels st p =
    cond_both (has_work (pass_at st p)) _ _ (λ (next : Step). next.state.levels ≡ st.levels) (λ _. refl) (λ _. claimed_levels st p (first_of (offers st)))

no_more_claim : (st : State) (p : ℕ) → NoMore st (claim_step st p).state
no_more_claim st p = levels_stay st (claim_step st p).state (view_claim st p) (claim_levels st p)

ended_levels : (st : State) (p : ℕ) (frame : Option OpenFrame) → (ended st p frame).state.levels ≡ st.levels
ended_levels st p None = refl
ended_levels st p (Some frame) = refl

end_levels : (st : State) (p : ℕ) → (end_step st p).state.levels ≡ st.levels
unfolding end_step
end_levels st p = ended_levels st p (frame_of (pass_at st p))

no_more_end : (st : State) (p : ℕ) → NoMore st (end_step st p).state
no_more_end st p = levels_stay st (end_step st p).state (view_end st p) (end_levels st p)

-- ---- a job that is given back
sound_job : (k count : ℕ) (pass : Pass) (job : JobNote) → IsSoundPass k count pass → job_of pass ≡ Some job → job.level < count
sound_job k count Free job h e = absurd (cc)
sound_job k count (Fills note) job h e = let same : note ≡ job = cc in subst (λ (n : JobNote). n.level < count) same h
sound_job k count (Draws frame) job h e = absurd (cc)

job_there : (st : State) (p : ℕ) (job : JobNote) → IsSomeSound st → job_of (pass_at st p) ≡ Some job → job.level < length st.levels
job_there st p job s e =
    sound_job st.k (length st.levels) (pass_at st p) job (s.sound.parts p Free (there_with_job st.passes p (ap is_some e))) e

no_more_kept : LawsBelow → (st : State) (p : ℕ) (job : JobNote) → job.level < length st.levels → SameView st (kept_job st p job).state → (level : ℕ) → left (kept_job st p job).state level ≤ left st level
no_more_kept known st p job there v level =
    elim (cases_eq level job.level) [
      | inl e ↦ subst (λ (m : ℕ). left (kept_job st p job).state m ≤ left st m) (sym e) (left_kept known st p job there)
      | inr e ↦
          let same : left (kept_job st p job).state level ≡ left st level = left_same st (kept_job st p job).state level v (other_kept st p level job e) in
          omega (arith, same)
    ]

stale_same : (st : State) (p : ℕ) (job : JobNote) (level : ℕ) → left (stale_job st p job).state level ≤ left st level
stale_same st p job level =
    let same : left (stale_job st p job).state level ≡ left st level = left_same st (stale_job st p job).state level (record { k = refl; x = refl; y = refl; altitude = refl; count = refl }) refl in
    omega (arith, same)

kept_view : (st : State) (p : ℕ) (job : JobNote) → SameView st (kept_job st p job).state
kept_view st p job = record { k = refl; x = refl; y = refl; altitude = refl; count = length-set st.levels job.level _ }

given_back_left : LawsBelow → (st : State) (p : ℕ) (job : Option JobNote) → IsSomeSound st → job_of (pass_at st p) ≡ job → (level : ℕ) → left (given_back st p job).state level ≤ left st level
unfolding finished_job
given_back_left known st p None s e level = omega arith
given_back_left known st p (Some job) s e level =
    cond_both (job.plan == (level_at st job.level).plan) (kept_job st p job) (stale_job st p job) (λ (next : Step). left next.state level ≤ left st level) (λ _. no_more_kept known st p job (job_there st p job s e) (kept_view st p job) level) (λ _. stale_same st p job level)

no_more_finish : LawsBelow → (st : State) (p : ℕ) → IsSomeSound st → NoMore st (finish_step st p).state
unfolding finish_step
no_more_finish known st p s = record { view = view_finish st p; each = λ (level : ℕ) (_ : level < length st.levels). given_back_left known st p (job_of (pass_at st p)) s refl level }

-- ---- a publication of a ripe level
no_more_publish : LawsBelow → (st : State) (level : ℕ) → is_ripe st level ≡ true → IsSomeSound st → IsSomeSound (publish_step st level).state → NoMore st (publish_step st level).state
no_more_publish known st level e s t =
    let ripe : IsRipe st level = ripe_is st level e in
    let there : level < length st.levels = ripe_there known st level s e in
    record {
      view = view_publish st level;
      each = λ (m : ℕ) (_ : m < length st.levels). one m;
    }
  where
    one : (m : ℕ) → left (publish_step st level).state m ≤ left st m
    one m =
        elim (cases_eq m level) [
          | inl same ↦ subst (λ (i : ℕ). left (publish_step st level).state i ≤ left st i) (sym same) (left_published known st level (ripe_is st level e) s t (ripe_there known st level s e))
          | inr apart ↦
              let stays : left (publish_step st level).state m ≡ left st m = left_same st (publish_step st level).state m (view_publish st level) (other_published st level m (ripe_is st level e) apart) in
              omega (arith, stays)
        ]

-- ---- what each step of a round keeps
-- any pass may claim
abbrev pub AnyPass : ℕ → Type 0
AnyPass p = Unit {0}

pub sound_claim : LawsBelow → (r : Run) (p : ℕ) → IsSomeSound r.state → IsSomeSound (then_step r p Claim).state
unfolding then_step
sound_claim known r p s = sound_after known r.state p Claim tt s

pub sound_finish : LawsBelow → (r : Run) (p : ℕ) → IsSomeSound r.state → IsSomeSound (then_step r p Finish).state
unfolding then_step
sound_finish known r p s = sound_after known r.state p Finish tt s

pub sound_close : LawsBelow → (r : Run) (p : ℕ) → IsSomeSound r.state → IsSomeSound (then_step r p End).state
unfolding then_step
sound_close known r p s = sound_after known r.state p End tt s

pub sound_publish : LawsBelow → (r : Run) (p level : ℕ) → is_ripe r.state level ≡ true → IsSomeSound r.state → IsSomeSound (then_step r p (Publish level)).state
unfolding then_step
sound_publish known r p level e s = sound_after known r.state p (Publish level) (ripe_there known r.state level s e) s

-- a run that is sound and has less left than a state
pub record HasLess (a : State) (r : Run) : Type 0 where
  pub sound : IsSomeSound r.state
  pub less : Less a r.state

pub less_closed : LawsBelow → (a : State) → Closed AnyPass (HasLess a)
unfolding then_step
less_closed known a = record {
  claim = λ r p ok h. record { sound = sound_claim known r p h.sound; less = less_then a r.state (claim_step r.state p).state h.less (no_more_claim r.state p) };
  finish = λ r p e h. record { sound = sound_finish known r p h.sound; less = less_then a r.state (finish_step r.state p).state h.less (no_more_finish known r.state p h.sound) };
  close = λ r e h. record { sound = sound_close known r frame_pass h.sound; less = less_then a r.state (end_step r.state frame_pass).state h.less (no_more_end r.state frame_pass) };
  publish = λ r level e h. record { sound = sound_publish known r 0 level e h.sound; less = less_then a r.state (publish_step r.state level).state h.less (no_more_publish known r.state level e h.sound (sound_publish known r 0 level e h.sound)) };
}

-- ---- a new piece that is kept
pub record IsFresh (st : State) (job : JobNote) : Type 0 where
  pub plan : job.plan ≡ (level_at st job.level).plan
  pub new : IsNew st job
  pub used : finest_at st ≤ job.level

kept_if_same_plan : (st : State) (p : ℕ) (job : JobNote) → job.plan ≡ (level_at st job.level).plan → finished_job st p job ≡ kept_job st p job
unfolding finished_job
kept_if_same_plan st p job e =
    cond-true (job.plan == (level_at st job.level).plan) (kept_job st p job) (stale_job st p job) (eq-eqb job.plan (level_at st job.level).plan e)

finish_is : (st : State) (p : ℕ) (job : JobNote) → pass_at st p ≡ Fills job → job.plan ≡ (level_at st job.level).plan → finish_step st p ≡ kept_job st p job
unfolding finish_step
finish_is st p job e same = ap (λ (pass : Pass). given_back st p (job_of pass)) e ∙ kept_if_same_plan st p job same

pub less_finish : LawsBelow → (st : State) (p : ℕ) (job : JobNote) → IsSomeSound st → pass_at st p ≡ Fills job → IsFresh st job → Less st (finish_step st p).state
less_finish known st p job s e fresh = record {
  view = view_finish st p;
  each = (no_more_finish known st p s).each;
  place = job.level;
  low = fresh.used;
  high = fresh.new.there;
  fewer = subst (λ (next : Step). left next.state job.level + 1 ≤ left st job.level) (sym (finish_is st p job e fresh.plan)) (left_new known st p job fresh.new);
}
