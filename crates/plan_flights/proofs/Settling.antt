-- A round from a state at rest that isn't settled leaves less to do, so rounds end settled.
use Rattle.std.proofs.Common.{◌≡◌, ℕ, zero, suc, ◌+◌, ◌<◌, ◌≤◌, Bool, true, false, cond, List, length, get_or, Option, Some, None, refl, ap, sym, ◌∙◌, subst, inl, inr, arith}
use Rattle.std.proofs.lemmas.Bool.{cond-true, cond-false, cases_Bool, true≢false, true_from_ne_false}
use Rattle.std.proofs.lemmas.List.{get_or-set_same}
use Rattle.std.specs.List.{Contains, fold, range_with_len}
use Rattle.std.specs.Option.{is_some}
use Rattle.plan_model.specs.Strips.{first_of}
use Rattle.plan_model.specs.States.{State, Level, Pass, empty_level, level_at, pass_at, finest_at, job_of, has_work}
use Rattle.plan_model.specs.Claims.{Offer, offers, strip_pieces, is_finished}
use Rattle.plan_model.specs.Steps.{Step, claimed_job, claimed, claim_step, finish_step, unchanged, step}
use Rattle.plan_model.specs.Histories.{Run, then_step}
use Rattle.plan_model.specs.Rounds.{is_job, claims, finish_of, finishes, ending, publishes, round, is_settled, rounds, cells_to_fill, settle}
use Rattle.plan_model.specs.declared.events.JobNote.{JobNote}
use Rattle.plan_model.specs.declared.events.Answer.TheVariants.{HasWork}
use Rattle.plan_model.specs.declared.events.Event.TheVariants.{Claim, Finish}
use Rattle.plan_model.specs.declared.events.Work.TheVariants.{Free, Fills}
use Rattle.plan_flights.specs.Flights.{IsAtRest, SettlesEnd}
use Rattle.plan_flights.specs.Below.{LawsBelow}
use Rattle.plan_flights.proofs.Lists.{first_is}
use Rattle.plan_flights.proofs.Parts.{IsSomeSound}
use Rattle.plan_flights.proofs.Views.{SameView, view_then, finest_same, strip_same, view_claim}
use Rattle.plan_flights.proofs.Left.{left, total, total_at_most, left_same}
use Rattle.plan_flights.proofs.Falls.{Less, total_less, claim_levels, AnyPass, sound_claim, sound_finish, HasLess, less_closed, IsFresh, less_finish}
use Rattle.plan_flights.proofs.Phases.{claims_keep, by_finishes, by_end}
use Rattle.plan_flights.proofs.Still.{round_rests, unframed_at_rest}
use Rattle.plan_flights.proofs.Progress.{IsGood, offers_good, some_offer}
use Rattle.plan_laws.proofs.Lists.{All-range}

-- ---- the first claim of a round
claim_is : (st : State) (p : ℕ) (o : Offer) → pass_at st p ≡ Free → first_of (offers st) ≡ Some o → claim_step st p ≡ claimed st p (Some o)
unfolding claim_step
claim_is st p o free e =
    cond-false (has_work (pass_at st p)) (unchanged st HasWork) (claimed st p (first_of (offers st))) (ap has_work free) ∙ ap (claimed st p) e

-- a run in which pass 0 has this job, and whose levels are those of a state
record HasJob (st : State) (job : JobNote) (r : Run) : Type 0 where
  sound : IsSomeSound r.state
  view : SameView st r.state
  levels : r.state.levels ≡ st.levels
  part : pass_at r.state 0 ≡ Fills job

first_job : LawsBelow → (r : Run) (o : Offer) → IsAtRest r.state → first_of (offers r.state) ≡ Some o → HasJob r.state (claimed_job r.state o) (then_step r 0 Claim)
unfolding then_step
first_job known r o rest e =
    let s : IsSomeSound r.state = record { bound = rest.bound; sound = rest.sound } in
    let there : 0 < length r.state.passes = omega (arith, rest.sound.passes) in
    record {
      sound = sound_claim known r 0 s;
      view = view_claim r.state 0;
      levels = claim_levels r.state 0;
      part = ap (λ (next : Step). pass_at next.state 0) (claim_is r.state 0 o (rest.free 0) e) ∙ get_or-set_same r.state.passes 0 (Fills (claimed_job r.state o)) Free there;
    }

-- the pass of another worker than the first
abbrev IsLater : ℕ → Type 0
IsLater p = 1 ≤ p

later_job : LawsBelow → (st : State) (job : JobNote) (r : Run) (p : ℕ) → IsLater p → HasJob st job r → HasJob st job (then_step r p Claim)
unfolding then_step
later_job known st job r p later h = record {
  sound = sound_claim known r p h.sound;
  view = view_then st r.state (claim_step r.state p).state h.view (view_claim r.state p);
  levels = claim_levels r.state p ∙ h.levels;
  part = known.others_keep r.state p 0 Claim (λ (e : p ≡ 0). omega arith) ∙ h.part;
}

later_jobs : LawsBelow → (st : State) (job : JobNote) (r : Run) (w : ℕ) → HasJob st job r → HasJob st job (claims r (range_with_len 1 w))
later_jobs known st job r w h =
    claims_keep IsLater (HasJob st job) (later_job known st job) r (range_with_len 1 w) (All-range IsLater 1 w (λ (p : ℕ) (low : 1 ≤ p) (high : p < 1 + w). low)) h

-- ---- it is given back
less_from : (a b c : State) → SameView a b → b.levels ≡ a.levels → Less b c → Less a c
less_from a b c v e h =
    let count : length b.levels ≡ length a.levels = v.count in
    let finest : finest_at b ≡ finest_at a = finest_same a b v in
    record {
      view = view_then a b c v h.view;
      each = λ (level : ℕ) (there : level < length a.levels). at level there;
      place = h.place;
      low = omega (arith, finest, h.low);
      high = omega (arith, count, h.high);
      fewer =
          let same : left b h.place ≡ left a h.place = left_same a b h.place v (ap (λ (ls : List Level). get_or ls h.place empty_level) e) in
          omega (arith, same, h.fewer);
    }
  where
    at : (level : ℕ) → level < length a.levels → left c level ≤ left a level
    at level there =
        let count : length b.levels ≡ length a.levels = v.count in
        let same : left b level ≡ left a level = left_same a b level v (ap (λ (ls : List Level). get_or ls level empty_level) e) in
        let less : left c level ≤ left b level = h.each level (omega arith) in
        omega (arith, same, less)

-- the claimed job is new where the levels are the same
still_fresh : (st next : State) (o : Offer) → SameView st next → next.levels ≡ st.levels → IsGood st o → IsFresh next (claimed_job st o)
still_fresh st next o v e good =
    let same : level_at next o.level ≡ level_at st o.level = ap (λ (ls : List Level). get_or ls o.level empty_level) e in
    let count : length next.levels ≡ length st.levels = v.count in
    let finest : finest_at next ≡ finest_at st = finest_same st next v in
    record {
      plan = sym (ap (λ (l : Level). l.plan) same);
      new = record {
        there = omega (arith, count, good.there);
        piece = subst (λ (strip : Option _). Contains (strip_pieces strip) o.piece) (sym (strip_same st next o.level v (ap (λ (l : Level). l.filled) same))) good.piece;
        unfinished = ap (λ (l : Level). is_finished l.finished o.piece) same ∙ good.unfinished;
      };
      used = omega (arith, finest, good.used);
    }

less_given_back : LawsBelow → (st : State) (o : Offer) (r : Run) → IsGood st o → HasJob st (claimed_job st o) r → HasLess st (finish_of r 0)
unfolding finish_of then_step
less_given_back known st o r good h =
    let has : is_some (job_of (pass_at r.state 0)) ≡ true = ap (λ (pass : Pass). is_some (job_of pass)) h.part in
    let less : Less st (finish_step r.state 0).state = less_from st r.state (finish_step r.state 0).state h.view h.levels (less_finish known r.state 0 (claimed_job st o) h.sound h.part (still_fresh st r.state o h.view h.levels good)) in
    subst (HasLess st) (sym (cond-true (is_some (job_of (pass_at r.state 0))) (then_step r 0 Finish) r has)) (record { sound = sound_finish known r 0 h.sound; less = less })

less_finishes : LawsBelow → (st : State) (o : Offer) (r : Run) → IsGood st o → HasJob st (claimed_job st o) r → HasLess st (finishes r)
unfolding finishes
less_finishes known st o r good h =
    let first : HasLess st (finish_of r 0) = less_given_back known st o r good h in
    let all : HasLess st (fold finish_of r (range_with_len 0 16)) = by_finishes AnyPass (HasLess st) (less_closed known st) (range_with_len 1 15) (finish_of r 0) first in
    subst (λ (n : ℕ). HasLess st (fold finish_of r (range_with_len 0 n))) (sym h.sound.sound.passes) all

-- ---- a round
pub less_round : LawsBelow → (w : ℕ) (r : Run) (o : Offer) → IsAtRest r.state → first_of (offers r.state) ≡ Some o → HasLess r.state (round (suc w) r)
unfolding round
less_round known w r o rest e =
    let good : IsGood r.state o = first_is (IsGood r.state) (offers r.state) o (offers_good r.state) e in
    let is : is_job (step r.state 0 Claim).answer ≡ true = ap (λ (next : Step). is_job next.answer) (claim_is r.state 0 o (rest.free 0) e) in
    let first : claims r (range_with_len 0 (suc w)) ≡ claims (then_step r 0 Claim) (range_with_len 1 w) = cond-true (is_job (step r.state 0 Claim).answer) (claims (then_step r 0 Claim) (range_with_len 1 w)) (then_step r 0 Claim) is in
    let job : HasJob r.state (claimed_job r.state o) (claims (then_step r 0 Claim) (range_with_len 1 w)) = later_jobs known r.state (claimed_job r.state o) (then_step r 0 Claim) w (first_job known r o rest e) in
    subst (λ (next : Run). HasLess r.state (publishes (ending (finishes next)))) (sym first) (by_end AnyPass (HasLess r.state) (less_closed known r.state) (finishes (claims (then_step r 0 Claim) (range_with_len 1 w))) (less_finishes known r.state o (claims (then_step r 0 Claim) (range_with_len 1 w)) good job))

offer_there : (o : Option Offer) → is_some o ≡ true → (offer : Offer) × (o ≡ Some offer)
offer_there None e = absurd (true≢false (sym e))
offer_there (Some offer) e = (offer, refl)

round_falls : LawsBelow → (workers : ℕ) (r : Run) → 1 ≤ workers → IsAtRest r.state → is_settled r.state ≡ false → total (round workers r).state + 1 ≤ total r.state
round_falls known zero r some rest e = absurd (omega arith)
round_falls known (suc w) r some rest e =
    let offer : (o : Offer) × (first_of (offers r.state) ≡ Some o) = offer_there (first_of (offers r.state)) (some_offer known r.state rest e) in
    total_less r.state (round (suc w) r).state (less_round known w r offer.0 rest offer.1).less

-- ---- rounds
settles : LawsBelow → (n workers : ℕ) (r : Run) → 1 ≤ workers → workers ≤ 15 → IsAtRest r.state → total r.state ≤ n → is_settled (rounds n workers r).state ≡ true
settles known zero workers r some few rest h =
    true_from_ne_false (is_settled r.state) (λ (e : is_settled r.state ≡ false). let falls : total (round workers r).state + 1 ≤ total r.state = round_falls known workers r some rest e in omega (arith, falls, h))
settles known (suc n) workers r some few rest h =
    elim (cases_Bool (is_settled r.state)) [
      | inl t ↦ ap (λ (b : Bool). is_settled (cond b r (rounds n workers (round workers r))).state) t ∙ t
      | inr e ↦
          let falls : total (round workers r).state + 1 ≤ total r.state = round_falls known workers r some rest e in
          ap (λ (b : Bool). is_settled (cond b r (rounds n workers (round workers r))).state) e ∙ settles known n workers (round workers r) some few (round_rests known workers r few (unframed_at_rest r rest)) (omega (arith, falls, h))
    ]

pub settles_end : LawsBelow → SettlesEnd
unfolding settle
settles_end known workers r some few rest =
    settles known (cells_to_fill r.state) workers r some few rest (total_at_most known r.state (record { bound = rest.bound; sound = rest.sound }))
