-- A piece that is filled, and what is then published, are one round of one worker.
use Rattle.std.proofs.Common.{◌≡◌, ℕ, ◌+◌, ◌-◌, ◌<◌, ◌≤◌, ◌==◌, ◌&&◌, Bool, true, false, cond, List, [], ◌∷◌, length, reverse, Option, Some, None, is_some, refl, ap, sym, ◌∙◌, subst, inl, inr, arith}
use Rattle.std.proofs.lemmas.Bool.{cases_Bool, cases_eq, cond-true, cond-false, true≢false, true_from_ne_false}
use Rattle.std.proofs.lemmas.List.{get_or-set_same}
use Rattle.std.specs.List.{fold, range_with_len}
use Rattle.plan_model.specs.Strips.{first_of}
use Rattle.plan_model.specs.States.{State, Pass, pass_at, job_of, frame_of, has_work, from_coarsest}
use Rattle.plan_model.specs.Claims.{Offer, offers, no_offer}
use Rattle.plan_model.specs.Steps.{Step, claimed, claimed_job, claim_step, unchanged, step}
use Rattle.plan_model.specs.Histories.{Run, run_from, then_step}
use Rattle.plan_model.specs.Rounds.{frame_pass, is_job, claims, finish_of, finishes, ending, is_ripe, publish_of, publishes, round, is_settled}
use Rattle.plan_model.specs.declared.events.Event.{Event}
use Rattle.plan_model.specs.declared.events.Event.TheVariants.{Claim, Finish, Publish, End}
use Rattle.plan_model.specs.declared.events.Answer.{Answer}
use Rattle.plan_model.specs.declared.events.Answer.TheVariants.{HasWork}
use Rattle.plan_model.specs.declared.events.Work.TheVariants.{Free, Fills}
use Rattle.plan_flights.specs.Below.{LawsBelow}
use Rattle.plan_flights.specs.Flights.{IsAtRest}
use Rattle.plan_flights.proofs.Falls.{total_less}
use Rattle.plan_flights.proofs.Left.{total}
use Rattle.plan_flights.proofs.Parts.{finish_free}
use Rattle.plan_flights.proofs.Progress.{some_offer}
use Rattle.plan_flights.proofs.Settling.{less_round}
use Rattle.plan_flights.proofs.Still.{round_rests, unframed_at_rest}
use Rattle.plan_flights.proofs.Views.{SameView}
use Rattle.plan_histories.specs.Parts.{OthersKeepParts, PassesAreKept}
use Rattle.plan_holds.specs.Laws.{StepsGoOn}
use Rattle.book_plan.specs.Books.{adds}
use Rattle.book_plan.proofs.Plans.{opens, step_counts}
use Rattle.book_cells.proofs.Claims.{of_no_offer}
use Rattle.plan_plain.proofs.Flown.{folded_down}
use Rattle.clip_book.specs.Books.{BookView}
use Rattle.clip_desk.specs.Desks.{Stays}
use Rattle.clip_desk.proofs.Stays.{stays_none, stays_then}
use Rattle.clip_runs.specs.Settles.{IsAlike, published_if_ripe}

-- the run in which pass 0 claimed a piece and gave it back
abbrev pub filled_run : Run → Run
filled_run r = then_step (then_step r 0 Claim) 0 Finish

finish_nothing : (r : Run) (p : ℕ) → job_of (pass_at r.state p) ≡ None → finish_of r p ≡ r
unfolding finish_of
finish_nothing r p none = cond-false (is_some (job_of (pass_at r.state p))) (then_step r p Finish) r (ap is_some none)

finish_none : (r : Run) (ps : List ℕ) → ((p : ℕ) → job_of (pass_at r.state p) ≡ None) → fold finish_of r ps ≡ r
finish_none r [] none = refl
finish_none r (p ∷ ps) none = ap (λ (next : Run). fold finish_of next ps) (finish_nothing r p (none p)) ∙ finish_none r ps none

finish_one : (r : Run) → is_some (job_of (pass_at r.state 0)) ≡ true → finish_of r 0 ≡ then_step r 0 Finish
unfolding finish_of
finish_one r some = cond-true (is_some (job_of (pass_at r.state 0))) (then_step r 0 Finish) r some

module _ (keep : OthersKeepParts) (kept : PassesAreKept) (r : Run) (free : (p : ℕ) → pass_at r.state p ≡ Free) (many : length r.state.passes ≡ 16)
    (job : is_job (step r.state 0 Claim).answer ≡ true) (has : is_some (job_of (pass_at (step r.state 0 Claim).state 0)) ≡ true) where
  -- no pass has anything then
  pub all_free : (p : ℕ) → pass_at (filled_run r).state p ≡ Free
  unfolding then_step
  all_free p =
      elim (cases_eq p 0) [
        | inl e ↦ subst (λ (q : ℕ). pass_at (step (step r.state 0 Claim).state 0 Finish).state q ≡ Free) (sym e) (finish_free (step r.state 0 Claim).state 0 has)
        | inr apart ↦ keep (step r.state 0 Claim).state 0 p Finish (λ e. apart (sym e)) ∙ keep r.state 0 p Claim (λ e. apart (sym e)) ∙ free p
      ]

  claims_one : claims r (range_with_len 0 1) ≡ then_step r 0 Claim
  claims_one = cond-true (is_job (step r.state 0 Claim).answer) (claims (then_step r 0 Claim) []) (then_step r 0 Claim) job

  claimed_many : length (then_step r 0 Claim).state.passes ≡ 16
  unfolding then_step
  claimed_many = kept r.state 0 Claim ∙ many

  claimed_has : is_some (job_of (pass_at (then_step r 0 Claim).state 0)) ≡ true
  unfolding then_step
  claimed_has = has

  finishes_one : finishes (then_step r 0 Claim) ≡ filled_run r
  unfolding finishes
  finishes_one =
      ap (λ (n : ℕ). fold finish_of (then_step r 0 Claim) (range_with_len 0 n)) claimed_many
      ∙ ap (λ (next : Run). fold finish_of next (range_with_len 1 15)) (finish_one (then_step r 0 Claim) claimed_has)
      ∙ finish_none (filled_run r) (range_with_len 1 15) (λ (p : ℕ). ap job_of (all_free p))

  no_ending : ending (filled_run r) ≡ filled_run r
  unfolding ending
  no_ending =
      cond-false (is_some (frame_of (pass_at (filled_run r).state frame_pass))) (then_step (filled_run r) frame_pass End) (filled_run r)
      (ap (λ (pass : Pass). is_some (frame_of pass)) (all_free frame_pass))

  -- so a round is the piece filled, and the ripe levels published
  pub round_one : round 1 r ≡ publishes (filled_run r)
  unfolding round
  round_one =
      ap (λ (next : Run). publishes (ending (finishes next))) claims_one ∙ ap (λ (next : Run). publishes (ending next)) finishes_one ∙ ap publishes no_ending

-- ---- what a claim at rest answers
no_job : (st : State) → is_job (no_offer st) ≡ false
no_job st = of_no_offer (λ (a : Answer). is_job a ≡ false) refl (λ _. refl) (λ _ _ _. refl) (λ _ _ _. refl) st

claim_free : (st : State) → pass_at st 0 ≡ Free → claim_step st 0 ≡ claimed st 0 (first_of (offers st))
unfolding claim_step
claim_free st free = cond-false (has_work (pass_at st 0)) (unchanged st HasWork) (claimed st 0 (first_of (offers st))) (ap has_work free)

offer_if_job : (st : State) (o : Option Offer) → is_job (claimed st 0 o).answer ≡ true → is_some o ≡ true
offer_if_job st None e = absurd (true≢false (sym e ∙ no_job st))
offer_if_job st (Some o) e = refl

job_if_offer : (st : State) (o : Option Offer) → is_some o ≡ true → is_job (claimed st 0 o).answer ≡ true
job_if_offer st None e = absurd (true≢false (sym e))
job_if_offer st (Some o) e = refl

job_there : (st : State) (o : Option Offer) → 0 < length st.passes → is_some o ≡ true → is_some (job_of (pass_at (claimed st 0 o).state 0)) ≡ true
job_there st None there e = absurd (true≢false (sym e))
job_there st (Some o) there e = ap (λ (pass : Pass). is_some (job_of pass)) (get_or-set_same st.passes 0 (Fills (claimed_job st o)) Free there)

nothing_claimed : (st : State) (o : Option Offer) → is_job (claimed st 0 o).answer ≡ false → (claimed st 0 o).state ≡ st
nothing_claimed st None e = refl
nothing_claimed st (Some o) e = absurd (true≢false e)

module _ (st : State) (rest : IsAtRest st) where
  -- a claim that gave a job was offered a piece, and pass 0 has the job
  pub job_was_offered : is_job (step st 0 Claim).answer ≡ true → is_some (first_of (offers st)) ≡ true
  job_was_offered e = offer_if_job st (first_of (offers st)) (sym (ap (λ (s : Step). is_job s.answer) (claim_free st (rest.free 0))) ∙ e)

  pub has_the_job : is_job (step st 0 Claim).answer ≡ true → is_some (job_of (pass_at (step st 0 Claim).state 0)) ≡ true
  has_the_job e =
      let many : length st.passes ≡ 16 = rest.sound.passes in
      ap (λ (s : Step). is_some (job_of (pass_at s.state 0))) (claim_free st (rest.free 0)) ∙ job_there st (first_of (offers st)) (omega (arith, many)) (job_was_offered e)

  -- a claim that gave none leaves the state, in which every level in use is whole
  pub none_leaves : is_job (step st 0 Claim).answer ≡ false → (step st 0 Claim).state ≡ st
  none_leaves e =
      let is : claim_step st 0 ≡ claimed st 0 (first_of (offers st)) = claim_free st (rest.free 0) in
      ap (λ (s : Step). s.state) is ∙ nothing_claimed st (first_of (offers st)) (sym (ap (λ (s : Step). is_job s.answer) is) ∙ e)

  pub none_settled : LawsBelow → is_job (step st 0 Claim).answer ≡ false → is_settled st ≡ true
  none_settled known e =
      true_from_ne_false (is_settled st) (λ (open_levels : is_settled st ≡ false).
      true≢false (sym (job_if_offer st (first_of (offers st)) (some_offer known st rest open_levels)) ∙ sym (ap (λ (s : Step). is_job s.answer) (claim_free st (rest.free 0))) ∙ e))

-- ---- publications
same_state : (b : Bool) (x y : Run) → (cond b x y).state ≡ cond b x.state y.state
same_state true x y = refl
same_state false x y = refl

pub published_is : (r : Run) (level : ℕ) → (publish_of r level).state ≡ published_if_ripe r.state level
unfolding publish_of then_step
published_is r level = same_state (is_ripe r.state level) (then_step r 0 (Publish level)) r

folded_state : (levels : List ℕ) (r r' : Run) → r.state ≡ r'.state → (fold publish_of r levels).state ≡ (fold publish_of r' levels).state
folded_state [] r r' e = e
folded_state (level ∷ levels) r r' e =
    folded_state levels (publish_of r level) (publish_of r' level) (published_is r level ∙ ap (λ (st : State). published_if_ripe st level) e ∙ sym (published_is r' level))

-- what is published depends on the state alone
pub published_state : (r r' : Run) → r.state ≡ r'.state → (publishes r).state ≡ (publishes r').state
unfolding publishes
published_state r r' e =
    folded_state (from_coarsest r.state) r r' e ∙ ap (λ (st : State). (fold publish_of r' (from_coarsest st)).state) e

-- the levels from one on were published, where they were ripe
pub record IsDown (start now : BookView) (level : ℕ) : Type 0 where
  pub state : now.plan.state ≡ (fold publish_of (run_from start.plan.state) (reverse (range_with_len level (length start.plan.state.levels - level)))).state
  pub stays : Stays start now

pub down_start : (start : BookView) (n : ℕ) → n ≡ length start.plan.state.levels → IsDown start start n
down_start start n is =
    let none : length start.plan.state.levels - n ≡ 0 = omega (arith, is) in
    record {
      state = ap (λ (m : ℕ). (fold publish_of (run_from start.plan.state) (reverse (range_with_len n m))).state) (sym none);
      stays = stays_none start;
    }

pub down_more : (start now next : BookView) (level : ℕ) → 0 < level → level ≤ length start.plan.state.levels → IsDown start now level →
    next.plan.state ≡ published_if_ripe now.plan.state (level - 1) → Stays now next → IsDown start next (level - 1)
down_more start now next level some few down state stays =
    let r : Run = fold publish_of (run_from start.plan.state) (reverse (range_with_len level (length start.plan.state.levels - level))) in
    record {
      state =
          state ∙ ap (λ (st : State). published_if_ripe st (level - 1)) down.state ∙ sym (published_is r (level - 1))
          ∙ ap (λ (run : Run). run.state) (folded_down publish_of (run_from start.plan.state) r (publish_of r (level - 1)) level (length start.plan.state.levels) some few refl refl);
      stays = stays_then start now next down.stays stays;
    }

pub down_end : (start now : BookView) → IsDown start now 0 → now.plan.state ≡ (publishes (run_from start.plan.state)).state
unfolding publishes
down_end start now down =
    let whole : length start.plan.state.levels - 0 ≡ length start.plan.state.levels = omega arith in
    down.state ∙ ap (λ (m : ℕ). (fold publish_of (run_from start.plan.state) (reverse (range_with_len 0 m))).state) whole

-- ---- settling
-- a book that is filled: it is at rest, and settled once no piece was left
pub record IsSettling (start now : BookView) (filling : Bool) : Type 0 where
  pub rest : IsAtRest now.plan.state
  pub stays : Stays start now
  pub settled : filling ≡ false → is_settled now.plan.state ≡ true
  pub alike : IsAlike start.plan.state now.plan.state

-- how much there is to do
unfoldable pub flag_of : Bool → ℕ
flag_of filling = cond filling 1 0

abbrev pub to_do : BookView → Bool → ℕ
to_do book filling = total book.plan.state + flag_of filling

filled_state : (st : State) → (filled_run (run_from st)).state ≡ (step (step st 0 Claim).state 0 Finish).state
unfolding then_step
filled_state st = refl

-- what a claim, the job given back and publications leave
pub fill_is : OthersKeepParts → PassesAreKept → (st s1 s2 s3 : State) → IsAtRest st → is_job (step st 0 Claim).answer ≡ true → s1 ≡ (step st 0 Claim).state →
    s2 ≡ (step s1 0 Finish).state → s3 ≡ (publishes (run_from s2)).state → s3 ≡ (round 1 (run_from st)).state
fill_is keep kept st s1 s2 s3 rest job claimed finished published =
    let same : s2 ≡ (filled_run (run_from st)).state = finished ∙ ap (λ (s : State). (step s 0 Finish).state) claimed ∙ sym (filled_state st) in
    published ∙ published_state (run_from s2) (filled_run (run_from st)) same
    ∙ ap (λ (r : Run). r.state) (sym (round_one keep kept (run_from st) rest.free rest.sound.passes job (has_the_job st rest job)))

some_of : {A : Type 0} (o : Option A) → is_some o ≡ true → (x : A) × (o ≡ Some x)
some_of None e = absurd (true≢false (sym e))
some_of (Some x) e = (x, refl)

alike_then : (a b c : State) → IsAlike a b → IsAlike b c → IsAlike a c
alike_then a b c h k = record { k = k.k ∙ h.k; x = k.x ∙ h.x; y = k.y ∙ h.y; altitude = k.altitude ∙ h.altitude; levels = k.levels ∙ h.levels }

round_alike : LawsBelow → (st : State) → IsAtRest st → is_some (first_of (offers st)) ≡ true → IsAlike st (round 1 (run_from st)).state
round_alike known st rest offered =
    let offer : (o : Offer) × (first_of (offers st) ≡ Some o) = some_of (first_of (offers st)) offered in
    let view : SameView st (round 1 (run_from st)).state = (less_round known 0 (run_from st) offer.0 rest offer.1).less.view in
    record { k = view.k; x = view.x; y = view.y; altitude = view.altitude; levels = view.count }

-- a book that goes on being filled
pub settling_more : LawsBelow → (start now next : BookView) (filling result : Bool) → IsSettling start now filling → (result ≡ true → next.plan.state ≡ (round 1 (run_from now.plan.state)).state) →
    (result ≡ true → is_some (first_of (offers now.plan.state)) ≡ true) →
    (result ≡ false → is_settled now.plan.state ≡ true) → (result ≡ false → next.plan.state ≡ now.plan.state) → Stays now next → IsSettling start next result
settling_more known start now next filling result h filled offered settled same stays = record {
  rest =
      elim (cases_Bool result) [
        | inl t ↦ subst IsAtRest (sym (filled t)) (round_rests known 1 (run_from now.plan.state) (omega arith) (unframed_at_rest (run_from now.plan.state) h.rest))
        | inr f ↦ subst IsAtRest (sym (same f)) h.rest
      ];
  stays = stays_then start now next h.stays stays;
  settled = λ f. ap is_settled (same f) ∙ settled f;
  alike =
      elim (cases_Bool result) [
        | inl t ↦ alike_then start.plan.state now.plan.state next.plan.state h.alike (subst (IsAlike now.plan.state) (sym (filled t)) (round_alike known now.plan.state h.rest (offered t)))
        | inr f ↦ subst (IsAlike start.plan.state) (sym (same f)) h.alike
      ];
}

-- there is less to do
pub to_do_less : LawsBelow → (now next : BookView) (filling result : Bool) → filling ≡ true → IsAtRest now.plan.state → (result ≡ true → next.plan.state ≡ (round 1 (run_from now.plan.state)).state) →
    (result ≡ true → is_some (first_of (offers now.plan.state)) ≡ true) → (result ≡ false → next.plan.state ≡ now.plan.state) → to_do next result < to_do now filling
unfolding flag_of
to_do_less known now next filling result on rest filled offered same =
    let one : flag_of filling ≡ flag_of true = ap flag_of on in
    elim (cases_Bool result) [
      | inl t ↦
          let offer : (o : Offer) × (first_of (offers now.plan.state) ≡ Some o) = some_of (first_of (offers now.plan.state)) (offered t) in
          let falls : total (round 1 (run_from now.plan.state)).state + 1 ≤ total now.plan.state = total_less now.plan.state (round 1 (run_from now.plan.state)).state (less_round known 0 (run_from now.plan.state) offer.0 rest offer.1).less in
          let is : total next.plan.state ≡ total (round 1 (run_from now.plan.state)).state = ap total (filled t) in
          let flag : flag_of result ≡ flag_of true = ap flag_of t in
          omega (arith, falls, is, flag, one)
      | inr f ↦
          let is : total next.plan.state ≡ total now.plan.state = ap total (same f) in
          let flag : flag_of result ≡ flag_of false = ap flag_of f in
          omega (arith, is, flag, one)
    ]
