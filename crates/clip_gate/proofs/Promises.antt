-- What the calls over a clip promise, of plain seats.
use Rattle.std.proofs.Common.{◌≡◌, ℕ, ◌+◌, ◌-◌, ◌^◌, ◌<◌, ◌≤◌, ◌==◌, Bool, true, not, List, [], ◌∷◌, ◌++◌, length, cond, ℤ, sym, refl, ap, ◌∙◌, subst, arith}
use Rattle.std.specs.Prelude.{Option, Some, None, is_some, option_map}
use Rattle.std.specs.Option.{IsSome}
use Rattle.std.proofs.lemmas.Bool.{cond_both}
use Rattle.std.proofs.lemmas.List.{length-replicate}
use Rattle.std.proofs.lemmas.List.Sums.{count_by-le-length}
use Rattle.atomic_table.specs.Seated.{TableId}
use Rattle.plan_model.specs.States.{State, Pass, OpenFrame, empty_level, start_state, level_at, pass_at, job_of, frame_of, has_work}
use Rattle.plan_model.specs.Steps.{Step, LevelTile, unchanged, job_answer, move_step, claimed, claim_step, kept_job, stale_job, finished_job, given_back, finish_step, grown, published, publish_step, held_under, actives_at, frame_begun, begin_step, ended, end_step, step}
use Rattle.plan_model.specs.Claims.{Offer, offers, strip_at, unfinished_pieces}
use Rattle.plan_model.specs.Strips.{first_of}
use Rattle.clip_regions.specs.declared.region.Region.{Region}
use Rattle.plan_model.specs.declared.events.Event.TheVariants.{Move, Claim, Finish, Publish, Begin, End}
use Rattle.plan_model.specs.Histories.{IsAllowed, state_after, moves, is_move}
use Rattle.plan_model.specs.declared.events.Event.{Event}
use Rattle.plan_model.specs.declared.events.Answer.{Answer}
use Rattle.plan_model.specs.declared.events.Answer.TheVariants.{HasWork}
use Rattle.plan_model.specs.declared.events.Entry.{Entry}
use Rattle.plan_model.specs.declared.events.JobNote.{JobNote}
use Rattle.plan_model.specs.declared.events.Work.TheVariants.{Free, Fills, Draws}
use Rattle.plan_holds.specs.Kept.{HasJob}
use Rattle.plan_holds.specs.Laws.{HistoriesGoOn}
use Rattle.terrain_store.specs.Shapes.{Land}
use Rattle.book_cells.specs.Cells.{IsPainted}
use Rattle.plan_histories.specs.Places.{places_of, places_of_end}
use Rattle.plan_histories.proofs.LegalLaws.{after_none, after_first, states_after_one_more}
use Rattle.book_plan.specs.Books.{adds}
use Rattle.clip_book.specs.Books.{BookView, Does, IsFilledOf, HandsOutWithJob, GivesJobOf, GivesActivesOf}
use Rattle.clip_book.specs.Answers.{said_of_claim}
use Rattle.clip_book.specs.declared.answers.Claimed.{Claimed}
use Rattle.clip_book.specs.declared.answers.Claimed.TheVariants as C
use Rattle.clip_book.specs.declared.answers.Begun.{Begun}
use Rattle.clip_book.specs.declared.answers.Begun.TheVariants as B
use Rattle.clip_book.specs.Jobs.{FilledView}
use Rattle.clip_book.specs.Tiles.{handed_to}
use Rattle.gate_rule.specs.Rule.{Ground, ground_of, IsLegal, state_in, places_in, with_ticket}
use Rattle.gate_rule.specs.Plays.{Sat, in_turn}
use Rattle.gate_rule.specs.Steps.{Rests, Entered, IsAnswered, Noted, Left, rested}
use Rattle.gate_rule.specs.declared.view.View.{View}
use Rattle.gate_rule.specs.declared.journal.Desk.{Desk}
use Rattle.gate_rule.proofs.TurnSteps.{long_enough}
use Rattle.gate_rule.proofs.Seats.{part_since}
use Rattle.clip_gate.specs.declared.part.Part.{Part}
use Rattle.clip_gate.specs.Parts.{IsPart}
use Rattle.clip_gate.specs.Passes.{PassView, pass_of, part_of, IsPass}
use Rattle.clip_gate.specs.Calls.{HasMade, HasWaited, IsFull, IsFilledOfPass, GivesJob, GivesActives, places_to_end}

-- a pass's part is the same after entries of others
pub part_now : (m seat : Sat) (desk : Desk) → Rests m → (e : Entered m seat desk) → pass_at (state_in (ground_of m.0) e.log) m.0.own ≡ pass_at (state_in (ground_of m.0) m.0.seen) m.0.own
part_now m seat desk r e = part_since (ground_of m.0) m.0.numbers m.0.seen e.log m.0.own e.goes_on r.history.mine

-- ---- the book's answer
pub answered : (m seat : Sat) (desk new : Desk) (x : Entry) (asked : ℕ) (e : Entered m seat desk) → x.pass ≡ m.0.own
    → IsAllowed (state_in (ground_of m.0) e.log) x.pass x.event → Does x.pass x.event x.answer desk.book new.book → new.journal ≡ desk.journal → new.taken ≡ desk.taken
    → places_of x.event x.answer ≤ asked → desk.taken + asked ≤ 1048576 → IsAnswered seat.0 x new
answered m seat desk new x asked e own allowed does journal taken few room =
    let v : View = m.0 in
    let g : Ground = ground_of v in
    let w : View = in_turn (with_ticket v e.number) e.log desk.book.handed in
    let was = e.stands.taken in
    subst (λ (u : Sat). IsAnswered u.0 x new) (sym e.seat) (record {
      own = own;
      allowed = allowed;
      plan = record {
        state = does.plan.state ∙ ap (λ (st : State). (step st x.pass x.event).state) e.stands.state;
        answered = ap (λ (st : State). (step st x.pass x.event).answer) (sym e.stands.state) ∙ does.plan.answered;
        moves = does.plan.moves ∙ ap (λ (n : ℕ). n + adds x.event) e.stands.moves;
      };
      land = does.land ∙ e.stands.land;
      others = λ q ne. does.others q (λ is. ne (is ∙ own));
      journal = journal ∙ e.stands.journal;
      taken = taken ∙ e.stands.taken;
      room = omega arith;
    })

-- ---- what the pass knows then
view_made : (m seat after : Sat) (desk new : Desk) (x : Entry) (e : Entered m seat desk) → Noted seat after x new → after.0 ≡ rested m.0 (e.log ++ x ∷ []) (handed_to new.book.handed m.0.own)
view_made m seat after desk new x e n =
    ap (λ (u : Sat). u.0) n.seat ∙ ap (λ (u : Sat). rested u.0 (u.0.seen ++ x ∷ []) (handed_to new.book.handed u.0.own)) e.seat

pub made : (table table' : TableId) (m seat after : Sat) (desk new : Desk) (x : Entry) (asked : ℕ) → table' ≡ table → Rests m → (e : Entered m seat desk) → Noted seat after x new → x.pass ≡ m.0.own → desk.taken + asked ≤ 1048576
    → ((note : JobNote) → HasJob (state_in (ground_of m.0) e.log) m.0.own note → handed_to new.book.handed m.0.own ≡ handed_to desk.book.handed m.0.own)
    → HasMade x.event x.answer asked (pass_of table m.0) (pass_of table' after.0)
made table table' m seat after desk new x asked same r e n own room kept =
    let v : View = m.0 in
    let w : View = rested v (e.log ++ x ∷ []) (handed_to new.book.handed v.own) in
    let is : after.0 ≡ w = view_made m seat after desk new x e n in
    let legal : IsLegal (ground_of w) w.seen = subst (λ (u : View). IsLegal (ground_of u) u.seen) is n.rests.history.legal in
    let was = e.stands.taken in
    subst (λ (t : TableId). HasMade x.event x.answer asked (pass_of table v) (pass_of t after.0)) (sym same)
    (subst (λ (u : View). HasMade x.event x.answer asked (pass_of table v) (pass_of table u)) (sym is) (record {
      before = e.log;
      waited = e.goes_on;
      room = omega arith;
      made = ap (λ (p : ℕ). e.log ++ record { pass = p; event = x.event; answer = x.answer } ∷ []) own;
      legal = legal;
      same = record { clip = refl; number = refl; numbers = refl; left = refl };
      heights = λ note has.
          let now : HasJob (state_in (ground_of v) e.log) v.own note = ap job_of (part_now m seat desk r e) ∙ has in
          kept note now ∙ e.heights note now;
    }))

view_left : (m seat after : Sat) (desk : Desk) (e : Entered m seat desk) → Left seat after → after.0 ≡ rested m.0 e.log m.0.heights
view_left m seat after desk e l = ap (λ (u : Sat). u.0) l.seat ∙ ap (λ (u : Sat). rested u.0 u.0.seen u.0.heights) e.seat

pub waited : (table table' : TableId) (m seat after : Sat) (desk : Desk) → table' ≡ table → Rests m → (e : Entered m seat desk) → Left seat after → HasWaited (pass_of table m.0) (pass_of table' after.0)
waited table table' m seat after desk same r e l =
    let v : View = m.0 in
    let w : View = rested v e.log v.heights in
    let is : after.0 ≡ w = view_left m seat after desk e l in
    subst (λ (t : TableId). HasWaited (pass_of table v) (pass_of t after.0)) (sym same)
    (subst (λ (u : View). HasWaited (pass_of table v) (pass_of table u)) (sym is) (record {
      waited = e.goes_on;
      legal = e.history.legal;
      same = record { clip = refl; number = refl; numbers = refl; left = refl };
      part = part_now m seat desk r e;
      heights = refl;
    }))

pub full : (table table' : TableId) (m seat after : Sat) (desk : Desk) (asked : ℕ) → table' ≡ table → Rests m → (e : Entered m seat desk) → Left seat after → 1048576 < desk.taken + asked → IsFull asked (pass_of table m.0) (pass_of table' after.0)
full table table' m seat after desk asked same r e l more =
    let was = e.stands.taken in
    let is : after.0 ≡ rested m.0 e.log m.0.heights = view_left m seat after desk e l in
    let places : places_in (ground_of after.0) after.0.seen ≡ places_in (ground_of m.0) e.log = ap (λ (u : View). places_in (ground_of u) u.seen) is in
    let here : 1048576 < places_in (ground_of m.0) e.log + asked = omega arith in
    record {
      waits = waited table table' m seat after desk same r e l;
      full = subst (λ (l : List Entry). 1048576 < places_in (ground_of m.0) l + asked) (sym (ap (λ (u : View). u.seen) is)) here;
    }

-- ---- the pass is whole again
pub pass_waited : (table table' : TableId) (m seat after : Sat) (desk : Desk) (number : ℕ) (left : List Bool) (part : Part) → IsPass table m number left part → (e : Entered m seat desk) → Left seat after → IsPass table' after number left part
pass_waited table table' m seat after desk number left part p e l =
    let v : View = m.0 in
    let is : after.0 ≡ rested v e.log v.heights = view_left m seat after desk e l in
    record {
      rests = l.rests;
      own = p.own ∙ sym (ap (λ (u : View). u.own) is);
      giving = p.giving ∙ sym (ap (λ (u : View). u.left) is);
      holds = subst (IsPart part) (sym (part_now m seat desk p.rests e) ∙ sym (ap (λ (u : View). part_of (pass_of table' u)) is)) p.holds;
    }

pub pass_made : (table table' : TableId) (m seat after : Sat) (desk new : Desk) (x : Entry) (number : ℕ) (left : List Bool) (was part : Part) → IsPass table m number left was → (e : Entered m seat desk) → IsAnswered seat.0 x new → Noted seat after x new
    → IsPart part (pass_at new.book.plan.state x.pass) → IsPass table' after number left part
pass_made table table' m seat after desk new x number left was part p e a n now =
    let v : View = m.0 in
    let g : Ground = ground_of v in
    let is : after.0 ≡ rested v (e.log ++ x ∷ []) (handed_to new.book.handed v.own) = view_made m seat after desk new x e n in
    let seen : seat.0 ≡ in_turn (with_ticket v e.number) e.log desk.book.handed = ap (λ (u : Sat). u.0) e.seat in
    let state : new.book.plan.state ≡ state_in g (e.log ++ x ∷ []) =
    a.plan.state ∙ ap (λ (u : View). (step (state_in (ground_of u) u.seen) x.pass x.event).state) seen
    ∙ sym (states_after_one_more (start_state g.size g.land.levels) e.log x) in
    let own : x.pass ≡ v.own = a.own ∙ ap (λ (u : View). u.own) seen in
    record {
      rests = n.rests;
      own = p.own ∙ sym (ap (λ (u : View). u.own) is);
      giving = p.giving ∙ sym (ap (λ (u : View). u.left) is);
      holds = subst (IsPart part) (ap (λ (st : State). pass_at st x.pass) state ∙ ap (λ (q : ℕ). pass_at (state_in g (e.log ++ x ∷ [])) q) own ∙ sym (ap (λ (u : View). part_of (pass_of table' u)) is)) now;
    }

-- ---- how few moves and frames there are
abbrev Few : State → State → Type 0
Few old new = new.begun ≤ old.begun + 1

claimed_few : (st : State) (p : ℕ) (offer : Option Offer) → Few st (claimed st p offer).state
claimed_few st p None = omega arith
claimed_few st p (Some offer) = omega arith

given_few : (st : State) (p : ℕ) (job : Option JobNote) → Few st (given_back st p job).state
unfolding finished_job
given_few st p None = omega arith
given_few st p (Some job) = cond_both (job.plan == (level_at st job.level).plan) (kept_job st p job) (stale_job st p job) (λ (s : Step). Few st s.state) (λ _. omega arith) (λ _. omega arith)

published_few : (st : State) (l : ℕ) (strip : Option Region) → Few st (published st l strip).state
published_few st l None = omega arith
published_few st l (Some strip) = cond_both (length (unfinished_pieces st l) == 0) (grown st l strip) _ (λ (s : Step). Few st s.state) (λ _. omega arith) (λ _. omega arith)

begun_few : (st : State) (p : ℕ) (held : Option LevelTile) → Few st (frame_begun st p held).state
begun_few st p None = omega arith
begun_few st p (Some held) = omega arith

ended_few : (st : State) (p : ℕ) (frame : Option OpenFrame) → Few st (ended st p frame).state
ended_few st p None = omega arith
ended_few st p (Some frame) = omega arith

few_begun : (st : State) (p : ℕ) (event : Event) → Few st (step st p event).state
unfolding move_step claim_step finish_step publish_step begin_step end_step
few_begun st p (Move x y a) = omega arith
few_begun st p Claim = cond_both (has_work (pass_at st p)) _ _ (λ (s : Step). Few st s.state) (λ _. omega arith) (λ _. claimed_few st p (first_of (offers st)))
few_begun st p Finish = given_few st p (job_of (pass_at st p))
few_begun st p (Publish level) = published_few st level (strip_at st level)
few_begun st p Begin = cond_both (has_work (pass_at st p)) _ _ (λ (s : Step). Few st s.state) (λ _. omega arith) (λ _. begun_few st p (first_of (held_under st (actives_at st))))
few_begun st p End = ended_few st p (frame_of (pass_at st p))

begun_after : (st : State) (log : List Entry) → (state_after st log).begun ≤ st.begun + length log
begun_after st [] = let e : (state_after st []).begun ≡ st.begun = ap (λ (s : State). s.begun) (after_none st) in omega arith
begun_after st (x ∷ rest) =
    let next : State = (step st x.pass x.event).state in
    let e : (state_after st (x ∷ rest)).begun ≡ (state_after next rest).begun = ap (λ (s : State). s.begun) (after_first st x rest) in
    let one : next.begun ≤ st.begun + 1 = few_begun st x.pass x.event in
    let more = begun_after next rest in
    omega arith

moves_few : (log : List Entry) → moves log ≤ length log
unfolding moves
moves_few log = count_by-le-length (λ (entry : Entry). is_move entry.event) log

pub low_number : (table : TableId) (m : Sat) (number : ℕ) (left : List Bool) (part : Part) → IsPass table m number left part → number < 16
low_number table m number left part p = let a = p.own in let b = p.rests.history.low in omega arith

-- ---- the book's own events
-- a move and a publication are those of any pass
pub does_of_any : (own : ℕ) (event : Event) (answer : Answer) (old new : BookView) → ((st : State) → step st own event ≡ step st 0 event) → Does 0 event answer old new → new.handed ≡ old.handed → Does own event answer old new
does_of_any own event answer old new any does handed = record {
  plan = record {
    state = does.plan.state ∙ ap (λ (s : Step). s.state) (sym (any old.plan.state));
    answered = ap (λ (s : Step). s.answer) (any old.plan.state) ∙ does.plan.answered;
    moves = does.plan.moves;
  };
  land = does.land;
  others = λ q ne. ap (λ out. handed_to out q) handed;
}

pub few_moves : (m seat : Sat) (desk : Desk) → Entered m seat desk → desk.book.plan.moves < 2 ^ 40
few_moves m seat desk e =
    let a = e.stands.moves in
    let b = moves_few e.log in
    let c = long_enough (ground_of m.0) e.log in
    let d = e.history.short in
    omega arith

pub few_frames : (m seat : Sat) (desk : Desk) → Entered m seat desk → desk.book.plan.state.begun < 2 ^ 40
unfolding start_state
few_frames m seat desk e =
    let a : desk.book.plan.state.begun ≡ (state_in (ground_of m.0) e.log).begun = ap (λ (st : State). st.begun) e.stands.state in
    let b : (state_in (ground_of m.0) e.log).begun ≤ 0 + length e.log = begun_after (start_state m.0.size m.0.about.levels) e.log in
    let c = long_enough (ground_of m.0) e.log in
    let d = e.history.short in
    omega arith

many_levels : HistoriesGoOn → (g : Ground) (log : List Entry) → length (state_in g log).levels ≡ g.land.levels
unfolding start_state
many_levels go g log = (go (start_state g.size g.land.levels) log).levels ∙ length-replicate g.land.levels empty_level

pub level_there : HistoriesGoOn → (m seat : Sat) (desk : Desk) (level : ℕ) → Entered m seat desk → level < m.0.about.levels → level < length desk.book.plan.state.levels
level_there go m seat desk level e h =
    let a : length desk.book.plan.state.levels ≡ length (state_in (ground_of m.0) e.log).levels = ap (λ (st : State). length st.levels) e.stands.state in
    let b = many_levels go (ground_of m.0) e.log in
    omega arith

pub has_job_now : (m seat : Sat) (desk : Desk) (note : JobNote) → Rests m → (e : Entered m seat desk) → HasJob (state_in (ground_of m.0) m.0.seen) m.0.own note → HasJob (state_in (ground_of m.0) e.log) m.0.own note
has_job_now m seat desk note r e has = ap job_of (part_now m seat desk r e) ∙ has

pub filled_of : (table : TableId) (m seat : Sat) (desk : Desk) (number : ℕ) (pass : PassView) (job : FilledView) → Rests m → number ≡ m.0.own → (e : Entered m seat desk) → pass_of table m.0 ≡ pass → IsFilledOfPass pass job → IsFilledOf desk.book number job
filled_of table m seat desk number pass job r own e is filled =
    let v : View = m.0 in
    let f : IsFilledOfPass (pass_of table v) job = subst (λ (q : PassView). IsFilledOfPass q job) (sym is) filled in
    let now : HasJob (state_in (ground_of v) e.log) v.own job.note = has_job_now m seat desk job.note r e f.note in
    let heights : handed_to desk.book.handed number ≡ v.heights = ap (handed_to desk.book.handed) own ∙ e.heights job.note now in
    record {
      land = f.land ∙ sym e.stands.land;
      note = ap (λ (st : State). job_of (pass_at st number)) e.stands.state ∙ ap (λ (n : ℕ). job_of (pass_at (state_in (ground_of v) e.log) n)) own ∙ now;
      painted =
          subst (λ (land : Land). IsPainted land.terrain job.note.level job.note.piece.cells (handed_to desk.book.handed number) job.tile) (sym e.stands.land)
          (subst (λ (hs : List ℤ). IsPainted v.about.terrain job.note.level job.note.piece.cells hs job.tile) (sym heights) f.painted);
    }

some_job : (o : Option JobNote) (note : JobNote) → o ≡ Some note → IsSome o
some_job o note is = ap is_some is

pub may_finish : (table : TableId) (m seat : Sat) (desk : Desk) (number : ℕ) (pass : PassView) (job : FilledView) → Rests m → number ≡ m.0.own → (e : Entered m seat desk) → pass_of table m.0 ≡ pass → IsFilledOfPass pass job → IsSome (job_of (pass_at (state_in (ground_of m.0) e.log) number))
may_finish table m seat desk number pass job r own e is filled =
    let f : IsFilledOfPass (pass_of table m.0) job = subst (λ (q : PassView). IsFilledOfPass q job) (sym is) filled in
    some_job _ job.note (ap (λ (n : ℕ). job_of (pass_at (state_in (ground_of m.0) e.log) n)) own ∙ has_job_now m seat desk job.note r e f.note)

-- a pass that has a job is given none
busy_claim : (st : State) (p : ℕ) → has_work (pass_at st p) ≡ true → (step st p Claim).answer ≡ HasWork
unfolding claim_step
busy_claim st p busy = ap (λ (b : Bool). (cond b (unchanged st HasWork) (claimed st p (first_of (offers st)))).answer) busy

works : (w : Pass) (note : JobNote) → job_of w ≡ Some note → has_work w ≡ true
works Free note is = absurd (cc)
works (Fills job) note is = refl
works (Draws frame) note is = absurd (cc)

no_job_told : (note : JobNote) → HasWork ≡ job_answer note → ⊥
no_job_told note e = cc

pub claim_keeps : (p : ℕ) (old new : BookView) (answer : Claimed) (note : JobNote) → Does p Claim (said_of_claim answer) old new → HandsOutWithJob answer old new → HasJob old.plan.state p note → handed_to new.handed p ≡ handed_to old.handed p
claim_keeps p old new (C.Job job) note does kept has = absurd (no_job_told job.note (sym (busy_claim old.plan.state p (works (pass_at old.plan.state p) note has)) ∙ does.plan.answered))
claim_keeps p old new C.Idle note does kept has = ap (λ out. handed_to out p) kept
claim_keeps p old new (C.Ripe level) note does kept has = ap (λ out. handed_to out p) kept
claim_keeps p old new (C.Busy level tile frame) note does kept has = ap (λ out. handed_to out p) kept
claim_keeps p old new (C.Held level tile pass) note does kept has = ap (λ out. handed_to out p) kept
claim_keeps p old new C.HasWork note does kept has = ap (λ out. handed_to out p) kept

-- what a claim and a beginning give, in what the pass knows
state_made : (table : TableId) (m seat after : Sat) (desk new : Desk) (x : Entry) (e : Entered m seat desk) → IsAnswered seat.0 x new → Noted seat after x new → new.book.plan.state ≡ state_in (ground_of after.0) after.0.seen
state_made table m seat after desk new x e a n =
    let v : View = m.0 in
    let g : Ground = ground_of v in
    let is : after.0 ≡ rested v (e.log ++ x ∷ []) (handed_to new.book.handed v.own) = view_made m seat after desk new x e n in
    let seen : seat.0 ≡ in_turn (with_ticket v e.number) e.log desk.book.handed = ap (λ (u : Sat). u.0) e.seat in
    a.plan.state ∙ ap (λ (u : View). (step (state_in (ground_of u) u.seen) x.pass x.event).state) seen
    ∙ sym (states_after_one_more (start_state g.size g.land.levels) e.log x)
    ∙ sym (ap (λ (u : View). state_in (ground_of u) u.seen) is)

pub gives_job : (table : TableId) (m seat after : Sat) (desk new : Desk) (x : Entry) (answer : Claimed) (e : Entered m seat desk) → IsAnswered seat.0 x new → Noted seat after x new → x.pass ≡ m.0.own → GivesJobOf new.book x.pass answer → GivesJob (pass_of table after.0) answer
gives_job table m seat after desk new x (C.Job job) e a n own its =
    let v : View = m.0 in
    let is : after.0 ≡ rested v (e.log ++ x ∷ []) (handed_to new.book.handed v.own) = view_made m seat after desk new x e n in
    let same : x.pass ≡ after.0.own = own ∙ sym (ap (λ (u : View). u.own) is) in
    record {
      land = its.land ∙ a.land ∙ ap (λ (u : Sat). u.0.about) e.seat ∙ sym (ap (λ (u : View). u.about) is);
      note = ap (λ (n : ℕ). job_of (pass_at (state_in (ground_of after.0) after.0.seen) n)) (sym same) ∙ ap (λ (st : State). job_of (pass_at st x.pass)) (sym (state_made table m seat after desk new x e a n)) ∙ its.note;
      tile = its.tile ∙ ap (handed_to new.book.handed) own ∙ sym (ap (λ (u : View). u.heights) is);
    }
gives_job table m seat after desk new x C.Idle e a n own its = tt
gives_job table m seat after desk new x (C.Ripe level) e a n own its = tt
gives_job table m seat after desk new x (C.Busy level tile frame) e a n own its = tt
gives_job table m seat after desk new x (C.Held level tile pass) e a n own its = tt
gives_job table m seat after desk new x C.HasWork e a n own its = tt

pub gives_actives : (table : TableId) (m seat after : Sat) (desk new : Desk) (x : Entry) (answer : Begun) (e : Entered m seat desk) → IsAnswered seat.0 x new → Noted seat after x new → x.pass ≡ m.0.own → GivesActivesOf new.book x.pass answer → GivesActives (pass_of table after.0) answer
gives_actives table m seat after desk new x (B.Frame number actives) e a n own its =
    let v : View = m.0 in
    let is : after.0 ≡ rested v (e.log ++ x ∷ []) (handed_to new.book.handed v.own) = view_made m seat after desk new x e n in
    let same : x.pass ≡ after.0.own = own ∙ sym (ap (λ (u : View). u.own) is) in
    ap (λ (n : ℕ). option_map (λ (frame : OpenFrame). frame.actives) (frame_of (pass_at (state_in (ground_of after.0) after.0.seen) n))) (sym same)
    ∙ ap (λ (st : State). option_map (λ (frame : OpenFrame). frame.actives) (frame_of (pass_at st x.pass))) (sym (state_made table m seat after desk new x e a n)) ∙ its
gives_actives table m seat after desk new x (B.Held level tile pass) e a n own its = tt
gives_actives table m seat after desk new x B.HasWork e a n own its = tt

-- an end asks for no place where the pass has a frame
end_few : (st : State) (p : ℕ) (frame : Option OpenFrame) (answer : Answer) → (ended st p frame).answer ≡ answer → places_of_end answer ≤ places_to_end frame
end_few st p None answer is = subst (λ (a : Answer). places_of_end a ≤ 1) is (omega arith)
end_few st p (Some frame) answer is = subst (λ (a : Answer). places_of_end a ≤ 0) is (omega arith)

pub end_asks : (p : ℕ) (old new : BookView) (answer : Answer) → Does p End answer old new → places_of End answer ≤ places_to_end (frame_of (pass_at old.plan.state p))
unfolding end_step
end_asks p old new answer does = end_few old.plan.state p (frame_of (pass_at old.plan.state p)) answer does.plan.answered

pub asked_now : (table : TableId) (m seat : Sat) (desk : Desk) (number : ℕ) (pass : PassView) → Rests m → number ≡ m.0.own → (e : Entered m seat desk) → pass_of table m.0 ≡ pass → places_to_end (frame_of (pass_at desk.book.plan.state number)) ≡ places_to_end (frame_of (part_of pass))
asked_now table m seat desk number pass r own e is =
    ap (λ (st : State). places_to_end (frame_of (pass_at st number))) e.stands.state
    ∙ ap (λ (n : ℕ). places_to_end (frame_of (pass_at (state_in (ground_of m.0) e.log) n))) own
    ∙ ap (λ (w : Pass). places_to_end (frame_of w)) (part_now m seat desk r e)
    ∙ ap (λ (q : PassView). places_to_end (frame_of (part_of q))) is

asks_few : (frame : Option OpenFrame) → places_to_end frame ≤ 1
asks_few None = omega arith
asks_few (Some frame) = omega arith

pub few_to_end : {asked : ℕ} (frame : Option OpenFrame) → asked ≡ places_to_end frame → asked ≤ 1
few_to_end frame is = let a = asks_few frame in omega arith

pub end_room : (taken asked : ℕ) → asked ≤ 1 → taken ≤ 1048576 - asked → taken + asked ≤ 1048576
end_room taken asked few h = omega arith

pub end_full : (taken asked : ℕ) → asked ≤ 1 → 1048576 - asked < taken → 1048576 < taken + asked
end_full taken asked few h = omega arith
