-- A round leaves a state at rest, where no pass but that of the frames has a frame when it starts.
use Rattle.std.proofs.Common.{◌≡◌, ℕ, zero, suc, ◌+◌, ◌<◌, ◌≤◌, true, false, List, [], ◌∷◌, length, get_or, None, ap, sym, ◌∙◌, subst, inl, inr, arith}
use Rattle.std.proofs.lemmas.Bool.{cond_both, cases_eq, cases_lt, true≢false, false_from_ne_true}
use Rattle.std.proofs.lemmas.List.{get_or_past}
use Rattle.std.proofs.lemmas.List.Elements.{All-nil, All-cons}
use Rattle.std.specs.List.{All, fold, range_with_len}
use Rattle.std.specs.Option.{is_some}
use Rattle.plan_model.specs.States.{State, Level, Pass, pass_at, job_of, frame_of, from_coarsest}
use Rattle.plan_model.specs.Steps.{claim_step, finish_step, publish_step, end_step}
use Rattle.plan_model.specs.Histories.{Run, then_step}
use Rattle.plan_model.specs.Rounds.{frame_pass, claims, finish_of, finishes, ending, is_ripe, publish_of, publishes, round}
use Rattle.plan_model.specs.declared.events.Event.TheVariants.{Claim, Finish, Publish, End}
use Rattle.plan_model.specs.declared.events.Work.TheVariants.{Free}
use Rattle.plan_flights.specs.Flights.{IsAtRest}
use Rattle.plan_flights.specs.Below.{LawsBelow}
use Rattle.plan_flights.proofs.Lists.{in_reverse}
use Rattle.plan_flights.proofs.Parts.{IsSomeSound, free_if, none_of, claim_frame, finish_free, end_free}
use Rattle.plan_flights.proofs.Views.{ripe_same, view_publish}
use Rattle.plan_flights.proofs.Ripe.{part_at, fresh_not_ripe, ripe_there, ripe_is, published_level, other_published}
use Rattle.plan_flights.proofs.Falls.{sound_claim, sound_finish, sound_close, sound_publish}
use Rattle.plan_flights.proofs.Phases.{Closed, by_claims, by_finishes, by_ending, by_publishes}
use Rattle.plan_laws.proofs.Lists.{All-range}

-- ---- frames
-- no pass but that of the frames has a frame
abbrev pub NoFrames : State → Type 0
NoFrames st = (q : ℕ) → (q ≡ frame_pass → ⊥) → frame_of (pass_at st q) ≡ None

pub record IsUnframed (r : Run) : Type 0 where
  pub sound : IsSomeSound r.state
  pub unframed : NoFrames r.state

-- the pass of a worker
abbrev pub IsWorker : ℕ → Type 0
IsWorker p = p < 15

unframed_claim : LawsBelow → (st : State) (p : ℕ) → p < length st.passes → IsWorker p → NoFrames st → NoFrames (claim_step st p).state
unframed_claim known st p there worker h q apart =
    elim (cases_eq p q) [
      | inl e ↦ subst (λ (m : ℕ). frame_of (pass_at (claim_step st p).state m) ≡ None) e (claim_frame st p there (subst (λ (m : ℕ). frame_of (pass_at st m) ≡ None) (sym e) (h q apart)))
      | inr e ↦ ap frame_of (known.others_keep st p q Claim e) ∙ h q apart
    ]

unframed_finish : LawsBelow → (st : State) (p : ℕ) → is_some (job_of (pass_at st p)) ≡ true → NoFrames st → NoFrames (finish_step st p).state
unframed_finish known st p job h q apart =
    elim (cases_eq p q) [
      | inl e ↦ subst (λ (m : ℕ). frame_of (pass_at (finish_step st p).state m) ≡ None) e (ap frame_of (finish_free st p job))
      | inr e ↦ ap frame_of (known.others_keep st p q Finish e) ∙ h q apart
    ]

unframed_close : LawsBelow → (st : State) → NoFrames st → NoFrames (end_step st frame_pass).state
unframed_close known st h q apart =
    ap frame_of (known.others_keep st frame_pass q End (λ (e : frame_pass ≡ q). apart (sym e))) ∙ h q apart

unframed_publish : LawsBelow → (st : State) (level : ℕ) → NoFrames st → NoFrames (publish_step st level).state
unframed_publish known st level h q apart =
    ap (λ (ps : List Pass). frame_of (get_or ps q Free)) (known.publications_leave st 0 level) ∙ h q apart

pub passes_there : (st : State) (p : ℕ) → IsSomeSound st → p < 16 → p < length st.passes
passes_there st p s h =
    let count : length st.passes ≡ 16 = s.sound.passes in
    omega (arith, count, h)

pub unframed_closed : LawsBelow → Closed IsWorker IsUnframed
unfolding then_step
unframed_closed known = record {
  claim = λ r p worker h. record { sound = sound_claim known r p h.sound; unframed = unframed_claim known r.state p (passes_there r.state p h.sound (omega arith)) worker h.unframed };
  finish = λ r p e h. record { sound = sound_finish known r p h.sound; unframed = unframed_finish known r.state p e h.unframed };
  close = λ r e h. record { sound = sound_close known r frame_pass h.sound; unframed = unframed_close known r.state h.unframed };
  publish = λ r level e h. record { sound = sound_publish known r 0 level e h.sound; unframed = unframed_publish known r.state level h.unframed };
}

-- ---- jobs
-- no pass below n has a job
abbrev NoJobsBelow : ℕ → State → Type 0
NoJobsBelow n st = (q : ℕ) → q < n → job_of (pass_at st q) ≡ None

job_gone : LawsBelow → (r : Run) (p : ℕ) → job_of (pass_at (finish_of r p).state p) ≡ None
unfolding finish_of then_step
job_gone known r p =
    cond_both (is_some (job_of (pass_at r.state p))) (then_step r p Finish) r (λ (next : Run). job_of (pass_at next.state p) ≡ None) (λ e. ap job_of (finish_free r.state p e)) (λ e. none_of (job_of (pass_at r.state p)) e)

job_stays_gone : LawsBelow → (r : Run) (p q : ℕ) → (p ≡ q → ⊥) → job_of (pass_at r.state q) ≡ None → job_of (pass_at (finish_of r p).state q) ≡ None
unfolding finish_of then_step
job_stays_gone known r p q apart h =
    cond_both (is_some (job_of (pass_at r.state p))) (then_step r p Finish) r (λ (next : Run). job_of (pass_at next.state q) ≡ None) (λ e. ap job_of (known.others_keep r.state p q Finish apart) ∙ h) (λ e. h)

one_more_gone : LawsBelow → (r : Run) (p : ℕ) → NoJobsBelow p r.state → NoJobsBelow (p + 1) (finish_of r p).state
one_more_gone known r p h q low =
    elim (cases_eq p q) [
      | inl e ↦ subst (λ (m : ℕ). job_of (pass_at (finish_of r p).state m) ≡ None) e (job_gone known r p)
      | inr e ↦ job_stays_gone known r p q e (h q (omega arith))
    ]

all_gone : LawsBelow → (s n : ℕ) (r : Run) → NoJobsBelow s r.state → NoJobsBelow (s + n) (fold finish_of r (range_with_len s n)).state
all_gone known s zero r h q low = h q (omega arith)
all_gone known s (suc n) r h q low = all_gone known (s + 1) n (finish_of r s) (one_more_gone known r s h) q (omega arith)

no_jobs : LawsBelow → (r : Run) → IsUnframed r → (q : ℕ) → job_of (pass_at (finishes r).state q) ≡ None
unfolding finishes
no_jobs known r h q =
    let after : IsUnframed (fold finish_of r (range_with_len 0 (length r.state.passes))) = by_finishes IsWorker IsUnframed (unframed_closed known) (range_with_len 0 (length r.state.passes)) r h in
    let before : length r.state.passes ≡ 16 = h.sound.sound.passes in
    let then' : length (fold finish_of r (range_with_len 0 (length r.state.passes))).state.passes ≡ 16 = after.sound.sound.passes in
    elim (cases_lt q (length r.state.passes)) [
      | inl low ↦ all_gone known 0 (length r.state.passes) r (λ (p : ℕ) (none : p < 0). absurd (omega arith)) q (omega arith)
      | inr high ↦ ap job_of (get_or_past (fold finish_of r (range_with_len 0 (length r.state.passes))).state.passes q Free (omega (arith, before, then')))
    ]

-- ---- every pass is free
abbrev AllFree : State → Type 0
AllFree st = (q : ℕ) → pass_at st q ≡ Free

free_after : LawsBelow → (r : Run) → IsUnframed r → ((q : ℕ) → job_of (pass_at r.state q) ≡ None) → AllFree (ending r).state
unfolding ending then_step
free_after known r h none q =
    cond_both (is_some (frame_of (pass_at r.state frame_pass))) (then_step r frame_pass End) r (λ (next : Run). pass_at next.state q ≡ Free) (λ e. closed_free e) (λ e. open_free e)
  where
    closed_free : is_some (frame_of (pass_at r.state frame_pass)) ≡ true → pass_at (end_step r.state frame_pass).state q ≡ Free
    closed_free e =
        elim (cases_eq frame_pass q) [
          | inl same ↦ subst (λ (m : ℕ). pass_at (end_step r.state frame_pass).state m ≡ Free) same (end_free r.state frame_pass e)
          | inr apart ↦ known.others_keep r.state frame_pass q End apart ∙ free_if (pass_at r.state q) (none q) (h.unframed q (λ (same : q ≡ frame_pass). apart (sym same)))
        ]

    open_free : is_some (frame_of (pass_at r.state frame_pass)) ≡ false → pass_at r.state q ≡ Free
    open_free e =
        elim (cases_eq frame_pass q) [
          | inl same ↦ subst (λ (m : ℕ). pass_at r.state m ≡ Free) same (free_if (pass_at r.state frame_pass) (none frame_pass) (none_of (frame_of (pass_at r.state frame_pass)) e))
          | inr apart ↦ free_if (pass_at r.state q) (none q) (h.unframed q (λ (same : q ≡ frame_pass). apart (sym same)))
        ]

free_published : LawsBelow → (r : Run) (level : ℕ) → AllFree r.state → AllFree (publish_of r level).state
unfolding publish_of then_step
free_published known r level h q =
    cond_both (is_ripe r.state level) (then_step r 0 (Publish level)) r (λ (next : Run). pass_at next.state q ≡ Free) (λ _. ap (λ (ps : List Pass). get_or ps q Free) (known.publications_leave r.state 0 level) ∙ h q) (λ _. h q)

all_free : LawsBelow → (levels : List ℕ) (r : Run) → AllFree r.state → AllFree (fold publish_of r levels).state
all_free known [] r h = h
all_free known (level ∷ rest) r h = all_free known rest (publish_of r level) (free_published known r level h)

-- ---- no level is ripe
record NotRipe (level : ℕ) (r : Run) : Type 0 where
  sound : IsSomeSound r.state
  not : is_ripe r.state level ≡ false

just_published : LawsBelow → (st : State) (level : ℕ) → is_ripe st level ≡ true → IsSomeSound st → IsSomeSound (publish_step st level).state → is_ripe (publish_step st level).state level ≡ false
just_published known st level e s t =
    fresh_not_ripe known (publish_step st level).state level (ap (λ (l : Level). l.finished) (published_level st level (ripe_is st level e) (ripe_there known st level s e))) (part_at (publish_step st level).state level t)

still_not_ripe : LawsBelow → (st : State) (level m : ℕ) → is_ripe st level ≡ true → is_ripe st m ≡ false → is_ripe (publish_step st level).state m ≡ false
still_not_ripe known st level m e h =
    let apart : m ≡ level → ⊥ = λ (same : m ≡ level). true≢false (sym e ∙ ap (is_ripe st) (sym same) ∙ h) in
    ripe_same st (publish_step st level).state m (view_publish st level) (other_published st level m (ripe_is st level e) apart) ∙ h

not_ripe_kept : LawsBelow → (m : ℕ) (r : Run) (level : ℕ) → NotRipe m r → NotRipe m (publish_of r level)
unfolding publish_of then_step
not_ripe_kept known m r level h =
    cond_both (is_ripe r.state level) (then_step r 0 (Publish level)) r (NotRipe m) (λ e. record { sound = sound_publish known r 0 level e h.sound; not = still_not_ripe known r.state level m e h.not }) (λ _. h)

not_ripe_after : LawsBelow → (m : ℕ) (levels : List ℕ) (r : Run) → NotRipe m r → NotRipe m (fold publish_of r levels)
not_ripe_after known m [] r h = h
not_ripe_after known m (level ∷ rest) r h = not_ripe_after known m rest (publish_of r level) (not_ripe_kept known m r level h)

not_ripe_once : LawsBelow → (r : Run) (level : ℕ) → IsSomeSound r.state → NotRipe level (publish_of r level)
unfolding publish_of then_step
not_ripe_once known r level s =
    cond_both (is_ripe r.state level) (then_step r 0 (Publish level)) r (NotRipe level) (λ e. record { sound = sound_publish known r 0 level e s; not = just_published known r.state level e s (sound_publish known r 0 level e s) }) (λ e. record { sound = s; not = e })

sound_publish_of : LawsBelow → (r : Run) (level : ℕ) → IsSomeSound r.state → IsSomeSound (publish_of r level).state
sound_publish_of known r level s = (not_ripe_once known r level s).sound

none_ripe : LawsBelow → (levels : List ℕ) (r : Run) → IsSomeSound r.state → All (λ m. is_ripe (fold publish_of r levels).state m ≡ false) levels
none_ripe known [] r s = All-nil (λ m. is_ripe (fold publish_of r []).state m ≡ false)
none_ripe known (level ∷ rest) r s =
    All-cons (λ m. is_ripe (fold publish_of r (level ∷ rest)).state m ≡ false) level rest (not_ripe_after known level rest (publish_of r level) (not_ripe_once known r level s)).not (none_ripe known rest (publish_of r level) (sound_publish_of known r level s))

-- ---- at rest
pub not_there : LawsBelow → (st : State) (level : ℕ) → IsSomeSound st → length st.levels ≤ level → is_ripe st level ≡ false
not_there known st level s high =
    false_from_ne_true (is_ripe st level) (λ (e : is_ripe st level ≡ true). let low : level < length st.levels = ripe_there known st level s e in absurd (omega arith))

published_all : LawsBelow → (r : Run) → IsUnframed r → (level : ℕ) → is_ripe (publishes r).state level ≡ false
unfolding publishes
published_all known r h level =
    let after : IsUnframed (fold publish_of r (from_coarsest r.state)) = by_publishes IsWorker IsUnframed (unframed_closed known) (from_coarsest r.state) r h in
    elim (cases_lt level (length r.state.levels)) [
      | inl low ↦ in_reverse (λ (m : ℕ). is_ripe (fold publish_of r (from_coarsest r.state)).state m ≡ false) 0 (length r.state.levels) level (omega arith) (omega arith) (none_ripe known (from_coarsest r.state) r h.sound)
      | inr high ↦ (not_ripe_after known level (from_coarsest r.state) r (record { sound = h.sound; not = not_there known r.state level h.sound high })).not
    ]

pub workers_in : (workers : ℕ) → workers ≤ 15 → All IsWorker (range_with_len 0 workers)
workers_in workers few = All-range IsWorker 0 workers (λ (p : ℕ) (low : 0 ≤ p) (high : p < 0 + workers). omega arith)

rest_published : LawsBelow → (r : Run) → IsUnframed r → AllFree r.state → IsAtRest (publishes r).state
unfolding publishes
rest_published known r h free =
    let after : IsUnframed (fold publish_of r (from_coarsest r.state)) = by_publishes IsWorker IsUnframed (unframed_closed known) (from_coarsest r.state) r h in
    record { bound = after.sound.bound; sound = after.sound.sound; free = all_free known (from_coarsest r.state) r free; published = published_all known r h }

unframed_finishes : LawsBelow → (r : Run) → IsUnframed r → IsUnframed (finishes r)
unfolding finishes
unframed_finishes known r h = by_finishes IsWorker IsUnframed (unframed_closed known) (range_with_len 0 (length r.state.passes)) r h

rest_ended : LawsBelow → (r : Run) → IsUnframed r → IsAtRest (publishes (ending (finishes r))).state
rest_ended known r h =
    let f : IsUnframed (finishes r) = unframed_finishes known r h in
    rest_published known (ending (finishes r)) (by_ending IsWorker IsUnframed (unframed_closed known) (finishes r) f) (free_after known (finishes r) f (no_jobs known r h))

pub round_rests : LawsBelow → (workers : ℕ) (r : Run) → workers ≤ 15 → IsUnframed r → IsAtRest (round workers r).state
unfolding round
round_rests known workers r few h =
    rest_ended known (claims r (range_with_len 0 workers)) (by_claims IsWorker IsUnframed (unframed_closed known) r (range_with_len 0 workers) (workers_in workers few) h)

pub unframed_at_rest : (r : Run) → IsAtRest r.state → IsUnframed r
unframed_at_rest r h = record { sound = record { bound = h.bound; sound = h.sound }; unframed = λ (q : ℕ) (_ : q ≡ frame_pass → ⊥). ap frame_of (h.free q) }
