-- What a pass that has nothing is answered, and what it has then.
use Rattle.std.proofs.Common.{◌≡◌, ℕ, zero, suc, ◌+◌, ◌-◌, ◌<◌, ◌≤◌, ◌==◌, false, Option, Some, None, List, [], ◌∷◌, length, inl, inr, refl, sym, ap, ◌∙◌, subst, arith}
use Rattle.std.proofs.lemmas.Bool.{cond_both, cases_lt, true≢false}
use Rattle.std.proofs.lemmas.List.{get_or-set_same, reverse-append}
use Rattle.std.proofs.lemmas.List.Elements.{All-nil, All-cons, All-append, All-head, All-tail, All-filter}
use Rattle.std.specs.List.{All, filter, range_with_len}
use Rattle.std.specs.Option.{IsSome, option_or}
use Rattle.std.specs.Prelude.{not, reverse, option_map, option_and_then, unwrap_or}
use Rattle.plan_model.specs.Strips.{first_of}
use Rattle.plan_model.specs.States.{State, Pass, OpenFrame, pass_at, level_at, is_whole, finest_at, used_from_coarsest, job_of, frame_of, has_work}
use Rattle.plan_model.specs.Claims.{Offer, offers, unfinished_pieces, tile_of_piece, held_needs, held_answer, busy_answer, needed_answer, blocked, ripe_or_blocked, idle_or_stuck, no_offer}
use Rattle.plan_model.specs.Tiles.{holder, pinner}
use Rattle.plan_model.specs.Steps.{Step, LevelTile, claimed, claim_step, finished_job, given_back, finish_step, held_under, actives_at, next_frame, frame_begun, begin_step, ended, end_step, step}
use Rattle.plan_model.specs.declared.tiles.Piece.{Piece}
use Rattle.plan_model.specs.declared.tiles.TileId.{TileId}
use Rattle.plan_model.specs.declared.events.JobNote.{JobNote}
use Rattle.plan_model.specs.declared.events.Event.TheVariants.{Claim, Finish, Begin, End}
use Rattle.plan_model.specs.declared.events.Answer.{Answer}
use Rattle.plan_model.specs.declared.events.Answer.TheVariants.{Idle, Busy, Held, Closed}
use Rattle.plan_model.specs.declared.events.Work.TheVariants.{Free, Draws}
use Rattle.swarm_laws.specs.Turns.{IsAfterClaim, IsAfterBegin}

-- ---- levels in use are there
first_one : {X : Type 0} (P : X → Type 0) (xs : List X) (x : X) → All P xs → first_of xs ≡ Some x → P x
first_one P [] x h e = absurd (cc)
first_one P (y ∷ ys) x h e = let same : y ≡ x = cc in subst P same (All-head P y ys h)

all_reverse : {X : Type 0} (P : X → Type 0) (xs : List X) → All P xs → All P (reverse xs)
all_reverse P [] h = h
all_reverse P (x ∷ xs) h =
    subst (All P) (sym (reverse-append (x ∷ []) xs)) (All-append P (reverse xs) (reverse (x ∷ [])) (all_reverse P xs (All-tail P x xs h)) (All-cons P x [] (All-head P x xs h) (All-nil P)))

all_range : (a n m : ℕ) → a + n ≤ m → All (λ level. level < m) (range_with_len a n)
all_range a zero m h = All-nil (λ (level : ℕ). level < m)
all_range a (suc n) m h = All-cons (λ (level : ℕ). level < m) a (range_with_len (a + 1) n) (omega arith) (all_range (a + 1) n m (omega arith))

all_used : (a m : ℕ) → All (λ level. level < m) (range_with_len a (m - a))
all_used a m = elim (cases_lt m a) as (λ _. All (λ level. level < m) (range_with_len a (m - a))) [
  | inl under ↦ let none : m - a ≡ 0 = omega arith in subst (λ n. All (λ (level : ℕ). level < m) (range_with_len a n)) (sym none) (All-nil (λ (level : ℕ). level < m))
  | inr over ↦ all_range a (m - a) m (omega arith)
]

-- ---- a claim
-- what stands in the way of a pass that has nothing
abbrev IsWay : State → Answer → Type 0
IsWay st answer = IsAfterClaim (length st.levels) Free answer × IsAfterBegin st Free answer

abbrev OfSome : (Answer → Type 0) → Option Answer → Type 0
OfSome P None = Unit {0}
OfSome P (Some answer) = P answer

of_first : (P : Answer → Type 0) (a b : Option Answer) → OfSome P a → OfSome P b → OfSome P (option_or a b)
of_first P None b h k = k
of_first P (Some answer) b h k = h

of_default : (P : Answer → Type 0) (a : Option Answer) (answer : Answer) → OfSome P a → P answer → P (unwrap_or a answer)
of_default P None answer h k = k
of_default P (Some other) answer h k = h

of_made : {X : Type 0} (P : Answer → Type 0) (make : X → Answer) (o : Option X) → ((x : X) → P (make x)) → OfSome P (option_map make o)
of_made P make None each = tt
of_made P make (Some x) each = each x

of_next : {X : Type 0} (P : Answer → Type 0) (make : X → Option Answer) (o : Option X) → ((x : X) → OfSome P (make x)) → OfSome P (option_and_then make o)
of_next P make None each = tt
of_next P make (Some x) each = each x

held_way : (st : State) (level : ℕ) (t : TileId) → OfSome (IsWay st) (held_answer st level t)
held_way st level t = of_made (IsWay st) (Held level t) (holder st level t) (λ _. (refl, refl))

blocked_way : (st : State) (level : ℕ) (piece : Piece) → OfSome (IsWay st) (blocked st level piece)
blocked_way st level piece =
    of_first (IsWay st) (held_answer st level (tile_of_piece st piece)) (option_or (busy_answer st level (tile_of_piece st piece)) (needed_answer st level piece))
    (held_way st level (tile_of_piece st piece))
    (of_first (IsWay st) (busy_answer st level (tile_of_piece st piece)) (needed_answer st level piece)
    (of_made (IsWay st) (Busy level (tile_of_piece st piece)) (pinner st level (tile_of_piece st piece)) (λ _. (refl, refl)))
    (of_next (IsWay st) (held_answer st (level + 1)) (first_of (held_needs st level piece)) (held_way st (level + 1))))

stuck_way : (st : State) (level : ℕ) (piece : Option Piece) → level < length st.levels → IsWay st (ripe_or_blocked st level piece)
stuck_way st level None low = ((refl, low), refl)
stuck_way st level (Some piece) low = of_default (IsWay st) (blocked st level piece) Idle (blocked_way st level piece) (refl, refl)

idle_way : (st : State) (level : Option ℕ) → ((l : ℕ) → level ≡ Some l → l < length st.levels) → IsWay st (idle_or_stuck st level)
idle_way st None low = (refl, refl)
idle_way st (Some level) low = stuck_way st level (first_of (unfinished_pieces st level)) (low level refl)

no_offer_way : (st : State) → IsWay st (no_offer st)
unfolding no_offer
no_offer_way st =
    let not_whole = λ (level : ℕ). not (is_whole st level) in
    let used : All (λ level. level < length st.levels) (used_from_coarsest st) = all_reverse (λ (level : ℕ). level < length st.levels) (range_with_len (finest_at st) (length st.levels - finest_at st)) (all_used (finest_at st) (length st.levels)) in
    idle_way st (first_of (filter not_whole (used_from_coarsest st)))
    (λ l is. first_one (λ (level : ℕ). level < length st.levels) (filter not_whole (used_from_coarsest st)) l (All-filter not_whole (λ (level : ℕ). level < length st.levels) (used_from_coarsest st) used) is)

with_part : (levels : ℕ) (part : Pass) (answer : Answer) → part ≡ Free → IsAfterClaim levels Free answer → IsAfterClaim levels part answer
with_part levels part answer is h = subst (λ (w : Pass). IsAfterClaim levels w answer) (sym is) h

after_claimed : (st : State) (p : ℕ) (offer : Option Offer) → pass_at st p ≡ Free → IsAfterClaim (length st.levels) (pass_at (claimed st p offer).state p) (claimed st p offer).answer
after_claimed st p None free = with_part (length st.levels) (pass_at st p) (no_offer st) free (no_offer_way st).0
after_claimed st p (Some offer) free = tt

idle_free : (w : Pass) → w ≡ Free → has_work w ≡ false
idle_free w is = ap has_work is

pub claim_of_free : (st : State) (p : ℕ) → pass_at st p ≡ Free → IsAfterClaim (length st.levels) (pass_at (step st p Claim).state p) (step st p Claim).answer
unfolding claim_step
claim_of_free st p free =
    cond_both (has_work (pass_at st p)) _ _ (λ (next : Step). IsAfterClaim (length st.levels) (pass_at next.state p) next.answer)
    (λ busy. absurd (true≢false (sym busy ∙ idle_free (pass_at st p) free))) (λ _. after_claimed st p (first_of (offers st)) free)

-- ---- a beginning
after_begun : (st : State) (p : ℕ) (held : Option LevelTile) → p < length st.passes → pass_at st p ≡ Free → IsAfterBegin st (pass_at (frame_begun st p held).state p) (frame_begun st p held).answer
after_begun st p None low free = ap frame_of (get_or-set_same st.passes p (Draws (next_frame st)) Free low)
after_begun st p (Some held) low free =
    subst (λ (w : Pass). IsAfterBegin st w (unwrap_or (held_answer st held.level held.tile) Idle)) (sym free)
    (of_default (IsWay st) (held_answer st held.level held.tile) Idle (held_way st held.level held.tile) (refl, refl)).1

pub begin_of_free : (st : State) (p : ℕ) → p < length st.passes → pass_at st p ≡ Free → IsAfterBegin st (pass_at (step st p Begin).state p) (step st p Begin).answer
unfolding begin_step
begin_of_free st p low free =
    cond_both (has_work (pass_at st p)) _ _ (λ (next : Step). IsAfterBegin st (pass_at next.state p) next.answer)
    (λ busy. absurd (true≢false (sym busy ∙ idle_free (pass_at st p) free))) (λ _. after_begun st p (first_of (held_under st (actives_at st))) low free)

-- ---- a job that is given back, and the end of a frame
after_given : (st : State) (p : ℕ) (job : Option JobNote) → p < length st.passes → IsSome job → pass_at (given_back st p job).state p ≡ Free
unfolding finished_job
after_given st p None low some = absurd (true≢false (sym some))
after_given st p (Some job) low some =
    cond_both (job.plan == (level_at st job.level).plan) _ _ (λ (next : Step). pass_at next.state p ≡ Free) (λ _. get_or-set_same st.passes p Free Free low) (λ _. get_or-set_same st.passes p Free Free low)

pub finish_of_job : (st : State) (p : ℕ) → p < length st.passes → IsSome (job_of (pass_at st p)) → pass_at (step st p Finish).state p ≡ Free
unfolding finish_step
finish_of_job st p low some = after_given st p (job_of (pass_at st p)) low some

after_ended : (st : State) (p : ℕ) (frame : Option OpenFrame) (f : OpenFrame) → p < length st.passes → frame ≡ Some f → (pass_at (ended st p frame).state p ≡ Free) × ((ended st p frame).answer ≡ Closed f.number)
after_ended st p None f low is = absurd (cc)
after_ended st p (Some frame) f low is = let same : frame ≡ f = cc in (get_or-set_same st.passes p Free Free low, ap (λ (g : OpenFrame). Closed g.number) same)

pub end_of_frame : (st : State) (p : ℕ) (f : OpenFrame) → p < length st.passes → frame_of (pass_at st p) ≡ Some f → (pass_at (step st p End).state p ≡ Free) × ((step st p End).answer ≡ Closed f.number)
unfolding end_step
end_of_frame st p f low is = after_ended st p (frame_of (pass_at st p)) f low is
