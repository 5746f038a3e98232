-- The laws of places and moves.
use Rattle.std.proofs.Common.{◌≡◌, ℕ, ◌+◌, ◌<◌, ◌≤◌, ◌==◌, Bool, true, false, cond, List, [], ◌∷◌, ◌++◌, length, length-append, get_or, set, Option, Some, None, refl, ap, sym, ◌∙◌, arith, zero-add, lit≤}
use Rattle.std.proofs.lemmas.Bool.{cond_both}
use Rattle.std.proofs.lemmas.List.Sums.{sum_by-append, sum_by-set}
use Rattle.std.specs.List.{count_by, filter}
use Rattle.std.specs.Prelude.{not, option_map, option_and_then, unwrap_or, IsSome}
use Rattle.std.specs.Option.{option_or}
use Rattle.plan_model.specs.Strips.{first_of}
use Rattle.plan_model.specs.States.{State, Pass, OpenFrame, start_state, pass_at, level_at, is_whole, used_from_coarsest, job_of, frame_of, has_work}
use Rattle.plan_model.specs.Claims.{Offer, offers, unfinished_pieces, tile_of_piece, held_needs, held_answer, busy_answer, needed_answer, blocked, ripe_or_blocked, idle_or_stuck, no_offer}
use Rattle.plan_model.specs.Tiles.{holder, pinner}
use Rattle.plan_model.specs.declared.tiles.Piece.{Piece}
use Rattle.plan_model.specs.declared.tiles.TileId.{TileId}
use Rattle.plan_model.specs.Steps.{Step, LevelTile, claimed, claim_step, finished_job, given_back, finish_step, held_under, actives_at, frame_begun, begin_step, ended, end_step, step}
use Rattle.plan_model.specs.Histories.{IsAllowed, state_after, places, is_move, moves}
use Rattle.plan_model.specs.declared.events.JobNote.{JobNote}
use Rattle.plan_model.specs.declared.events.Event.{Event}
use Rattle.plan_model.specs.declared.events.Event.TheVariants.{Move, Claim, Finish, Publish, Begin, End}
use Rattle.plan_model.specs.declared.events.Answer.{Answer}
use Rattle.plan_model.specs.declared.events.Answer.TheVariants.{Job, Idle, Busy, Held, Frame, Closed}
use Rattle.plan_model.specs.declared.events.Entry.{Entry}
use Rattle.plan_model.specs.declared.events.Work.TheVariants.{Free, Fills, Draws}
use Rattle.plan_histories.specs.Places.{places_of_claim, places_of_begin, places_of_end, places_of, NoEntryNoPlace, PlacesWithOneMore, PlacesAreFew, MovesOfTwo, MovesWithOneMore}
use Rattle.plan_histories.proofs.LegalLaws.{states_after_one_more, legal_with_one_more}
use Rattle.plan_histories.proofs.PassLaws.{moves_leave_parts, publications_leave_parts}

-- ---- one pass's part
one_if : Bool → ℕ
one_if b = cond b 1 0

count_set : (ps : List Pass) (p : ℕ) (new : Pass) → p < length ps → count_by has_work (set ps p new) + one_if (has_work (get_or ps p Free)) ≡ count_by has_work ps + one_if (has_work new)
unfolding one_if
count_set ps p new h = sum_by-set (λ (q : Pass). cond (has_work q) 1 0) ps p new Free h

-- a pass that gets work, and one that loses it
given_work : (ps : List Pass) (p : ℕ) (new : Pass) → p < length ps → has_work (get_or ps p Free) ≡ false → has_work new ≡ true → 1 + count_by has_work (set ps p new) ≡ count_by has_work ps + 2
unfolding one_if
given_work ps p new h before after =
    let moved : count_by has_work (set ps p new) + one_if (has_work (get_or ps p Free)) ≡ count_by has_work ps + one_if (has_work new) = count_set ps p new h in
    let was : one_if (has_work (get_or ps p Free)) ≡ 0 = ap one_if before in
    let is : one_if (has_work new) ≡ 1 = ap one_if after in
    omega arith

lost_work : (ps : List Pass) (p : ℕ) → p < length ps → has_work (get_or ps p Free) ≡ true → 1 + count_by has_work (set ps p Free) ≡ count_by has_work ps + 0
unfolding one_if
lost_work ps p h before =
    let moved : count_by has_work (set ps p Free) + one_if (has_work (get_or ps p Free)) ≡ count_by has_work ps + one_if (has_work Free) = count_set ps p Free h in
    let was : one_if (has_work (get_or ps p Free)) ≡ 1 = ap one_if before in
    omega arith

kept_work : (n : ℕ) → 1 + n ≡ n + 1
kept_work n = omega arith

-- a step's answer and the works of its passes, with one entry more, against so many places
abbrev Adds : State → (Answer → ℕ) → Step → Type 0
Adds st f next = 1 + count_by has_work next.state.passes ≡ count_by has_work st.passes + f next.answer

-- ---- a claim
-- what is true of an answer, where there is one
abbrev OfSome : (Answer → Type 0) → Option Answer → Type 0
OfSome P None = Unit {0}
OfSome P (Some answer) = P answer

of_first : (P : Answer → Type 0) (a b : Option Answer) → OfSome P a → OfSome P b → OfSome P (option_or a b)
of_first P None b h k = k
of_first P (Some answer) b h k = h

of_default : (P : Answer → Type 0) (a : Option Answer) (answer : Answer) → OfSome P a → P answer → P (unwrap_or a answer)
of_default P None answer h k = k
of_default P (Some other) answer h k = h

of_made : {X : Type 0} (P : Answer → Type 0) (make : X → Answer) (o : Option X) → ((x : X) → P (make x)) → OfSome P (option_map make o)
of_made P make None each = tt
of_made P make (Some x) each = each x

of_next : {X : Type 0} (P : Answer → Type 0) (make : X → Option Answer) (o : Option X) → ((x : X) → OfSome P (make x)) → OfSome P (option_and_then make o)
of_next P make None each = tt
of_next P make (Some x) each = each x

-- an answer that refuses a claim or a beginning takes the one place of its entry
abbrev IsPlain : Answer → Type 0
IsPlain answer = (places_of_claim answer ≡ 1) × (places_of_begin answer ≡ 1)

plain_held : (st : State) (level : ℕ) (t : TileId) → OfSome IsPlain (held_answer st level t)
plain_held st level t = of_made IsPlain (Held level t) (holder st level t) (λ _. (refl, refl))

plain_blocked : (st : State) (level : ℕ) (piece : Piece) → OfSome IsPlain (blocked st level piece)
plain_blocked st level piece =
    of_first IsPlain (held_answer st level (tile_of_piece st piece)) (option_or (busy_answer st level (tile_of_piece st piece)) (needed_answer st level piece)) (plain_held st level (tile_of_piece st piece)) (of_first IsPlain (busy_answer st level (tile_of_piece st piece)) (needed_answer st level piece) (of_made IsPlain (Busy level (tile_of_piece st piece)) (pinner st level (tile_of_piece st piece)) (λ _. (refl, refl))) (of_next IsPlain (held_answer st (level + 1)) (first_of (held_needs st level piece)) (plain_held st (level + 1))))

plain_stuck : (st : State) (level : ℕ) (piece : Option Piece) → IsPlain (ripe_or_blocked st level piece)
plain_stuck st level None = (refl, refl)
plain_stuck st level (Some piece) = of_default IsPlain (blocked st level piece) Idle (plain_blocked st level piece) (refl, refl)

plain_idle : (st : State) (level : Option ℕ) → IsPlain (idle_or_stuck st level)
plain_idle st None = (refl, refl)
plain_idle st (Some level) = plain_stuck st level (first_of (unfinished_pieces st level))

no_job : (st : State) → places_of_claim (no_offer st) ≡ 1
unfolding no_offer
no_job st = (plain_idle st (first_of (filter (λ level. not (is_whole st level)) (used_from_coarsest st)))).0

adds_claimed : (st : State) (p : ℕ) (offer : Option Offer) → p < length st.passes → has_work (pass_at st p) ≡ false → Adds st places_of_claim (claimed st p offer)
adds_claimed st p None h free =
    kept_work (count_by has_work st.passes) ∙ ap (λ (n : ℕ). count_by has_work st.passes + n) (sym (no_job st))
adds_claimed st p (Some offer) h free = given_work st.passes p _ h free refl

adds_claim : (st : State) (p : ℕ) → p < length st.passes → Adds st places_of_claim (claim_step st p)
unfolding claim_step
adds_claim st p h =
    cond_both (has_work (pass_at st p)) _ _ (Adds st places_of_claim) (λ _. kept_work (count_by has_work st.passes)) (λ free. adds_claimed st p (first_of (offers st)) h free)

-- ---- a job that is given back
busy_with_job : (pass : Pass) (job : JobNote) → job_of pass ≡ Some job → has_work pass ≡ true
busy_with_job Free job e = absurd (cc)
busy_with_job (Fills note) job e = refl
busy_with_job (Draws frame) job e = absurd (cc)

adds_given_back : (st : State) (p : ℕ) (job : Option JobNote) → p < length st.passes → job_of (pass_at st p) ≡ job → IsSome job → Adds st (λ _. 0) (given_back st p job)
unfolding finished_job
adds_given_back st p None h e some = absurd (cc)
adds_given_back st p (Some job) h e some =
    cond_both (job.plan == (level_at st job.level).plan) _ _ (Adds st (λ _. 0)) (λ _. lost_work st.passes p h (busy_with_job (pass_at st p) job e)) (λ _. lost_work st.passes p h (busy_with_job (pass_at st p) job e))

-- ---- a frame's beginning and its end
adds_begun : (st : State) (p : ℕ) (held : Option LevelTile) → p < length st.passes → has_work (pass_at st p) ≡ false → Adds st places_of_begin (frame_begun st p held)
adds_begun st p None h free = given_work st.passes p _ h free refl
adds_begun st p (Some held) h free =
    kept_work (count_by has_work st.passes) ∙ ap (λ (n : ℕ). count_by has_work st.passes + n) (sym (of_default IsPlain (held_answer st held.level held.tile) Idle (plain_held st held.level held.tile) (refl, refl)).1)

adds_begin : (st : State) (p : ℕ) → p < length st.passes → Adds st places_of_begin (begin_step st p)
unfolding begin_step
adds_begin st p h =
    cond_both (has_work (pass_at st p)) _ _ (Adds st places_of_begin) (λ _. kept_work (count_by has_work st.passes)) (λ free. adds_begun st p (first_of (held_under st (actives_at st))) h free)

busy_with_frame : (pass : Pass) (frame : OpenFrame) → frame_of pass ≡ Some frame → has_work pass ≡ true
busy_with_frame Free frame e = absurd (cc)
busy_with_frame (Fills note) frame e = absurd (cc)
busy_with_frame (Draws other) frame e = refl

adds_ended : (st : State) (p : ℕ) (frame : Option OpenFrame) → p < length st.passes → frame_of (pass_at st p) ≡ frame → Adds st places_of_end (ended st p frame)
adds_ended st p None h e = kept_work (count_by has_work st.passes)
adds_ended st p (Some frame) h e = lost_work st.passes p h (busy_with_frame (pass_at st p) frame e)

-- ---- any event
adds : (st : State) (p : ℕ) (event : Event) → p < length st.passes → IsAllowed st p event → Adds st (places_of event) (step st p event)
unfolding finish_step end_step
adds st p (Move x y a) h ok = ap (λ (ps : List Pass). 1 + count_by has_work ps) (moves_leave_parts st p x y a) ∙ kept_work (count_by has_work st.passes)
adds st p Claim h ok = adds_claim st p h
adds st p Finish h ok = adds_given_back st p (job_of (pass_at st p)) h refl ok
adds st p (Publish level) h ok = ap (λ (ps : List Pass). 1 + count_by has_work ps) (publications_leave_parts st p level) ∙ kept_work (count_by has_work st.passes)
adds st p Begin h ok = adds_begin st p h
adds st p End h ok = adds_ended st p (frame_of (pass_at st p)) h refl

more_places : (old new count one : ℕ) → 1 + new ≡ old + one → (count + 1) + new ≡ (count + old) + one
more_places old new count one e = omega arith

next_places : (st : State) (count : ℕ) (e : Entry) → e.pass < length st.passes → IsAllowed st e.pass e.event → (step st e.pass e.event).answer ≡ e.answer → (count + 1) + count_by has_work (step st e.pass e.event).state.passes ≡ (count + count_by has_work st.passes) + places_of e.event e.answer
next_places st count e h ok same =
    more_places (count_by has_work st.passes) (count_by has_work (step st e.pass e.event).state.passes) count (places_of e.event e.answer) (adds st e.pass e.event h ok ∙ ap (λ (answer : Answer). count_by has_work st.passes + places_of e.event answer) same)

pub places_with_one_more : PlacesWithOneMore
unfolding places
places_with_one_more k levels entries e legal =
    let st : State = state_after (start_state k levels) entries in
    let next = (legal_with_one_more (start_state k levels) entries e).0 legal in
    ap (λ (n : ℕ). n + count_by has_work (state_after (start_state k levels) (entries ++ e ∷ [])).passes) (length-append entries (e ∷ [])) ∙ ap (λ (s : State). (length entries + 1) + count_by has_work s.passes) (states_after_one_more (start_state k levels) entries e) ∙ next_places (state_after (start_state k levels) entries) (length entries) e next.1.0 next.1.1 next.1.2

pub no_entry_no_place : NoEntryNoPlace
unfolding places state_after start_state
no_entry_no_place k levels = refl

claim_few : (answer : Answer) → places_of_claim answer ≤ 2
claim_few (Job level bx by cells plan) = lit≤ tt
claim_few _ = lit≤ tt

begin_few : (answer : Answer) → places_of_begin answer ≤ 2
begin_few (Frame number) = lit≤ tt
begin_few _ = lit≤ tt

end_few : (answer : Answer) → places_of_end answer ≤ 1
end_few (Closed number) = lit≤ tt
end_few _ = lit≤ tt

pub places_are_few : PlacesAreFew
places_are_few (Move x y a) answer = omega arith
places_are_few Claim answer = claim_few answer
places_are_few Finish answer = omega arith
places_are_few (Publish level) answer = omega arith
places_are_few Begin answer = begin_few answer
places_are_few End answer = end_few answer

-- ---- moves
pub moves_of_two : MovesOfTwo
unfolding moves
moves_of_two first second = sum_by-append (λ (entry : Entry). cond (is_move entry.event) 1 0) first second

pub moves_with_one_more : MovesWithOneMore
unfolding moves
moves_with_one_more entries e =
    sum_by-append (λ (entry : Entry). cond (is_move entry.event) 1 0) entries (e ∷ []) ∙ ap (λ (n : ℕ). count_by (λ (entry : Entry). is_move entry.event) entries + n) (zero-add (cond (is_move e.event) 1 0))
