-- What the calls over a table ask and promise, of plain seats.
use Rattle.std.proofs.Common.{◌≡◌, ℕ, zero, suc, ◌+◌, ◌%◌, ◌^◌, ◌<◌, true, false, List, [], ◌∷◌, ◌++◌, length, get_or, cond, sym, refl, ap, ◌∙◌, subst, arith, length-append, length-set}
use Rattle.std.proofs.lemmas.Bool.{true≢false}
use Rattle.std.specs.Prelude.{Option, Some, None}
use mathlib.Core.Option.{some, some-injective, some-ne-none}
use mathlib.Core.Logic.{dite}
use native.Mathlib.Decide.{ℕ_discrete}
use lib.ListN.{get_elem?}
use Rattle.atomic_table.specs.Table.{rest}
use Rattle.plan_model.specs.States.{start_state}
use Rattle.plan_model.specs.Histories.{moves, is_move}
use Rattle.plan_model.specs.declared.events.Event.{Event}
use Rattle.plan_model.specs.declared.events.Event.TheVariants.{Move, Claim, Finish, Publish, Begin, End}
use Rattle.plan_model.specs.declared.events.Entry.{Entry}
use Rattle.plan_histories.specs.Places.{places_of}
use Rattle.plan_histories.proofs.LegalLaws.{states_after_one_more, legal_with_one_more}
use Rattle.plan_histories.proofs.PlaceLaws.{places_with_one_more, moves_with_one_more, no_entry_no_place}
use Rattle.plan_histories.proofs.PassLaws.{no_entry_no_part}
use Rattle.book_plan.specs.Books.{adds}
use Rattle.clip_book.specs.Tiles.{handed_to}
use Rattle.gate_rule.specs.Rule.{Ground, ground_of, IsLegal, places_in, GoesOn, Stands, first_view, with_ticket, kept_back, given_away, joined}
use Rattle.gate_rule.specs.Flags.{flag, only, least}
use Rattle.gate_rule.specs.Plays.{Sat, in_turn, out_of_turn, with_entry, IsLive, IsHistory, Taken, Adds, Counted, Looked, MayPass, PassedOn, Ends, HasAll}
use Rattle.gate_rule.specs.Steps.{Rests, HasDesk, InTurn, Entered, IsAnswered, Noted, Left, TakesOver, EndsWith, rested}
use Rattle.gate_rule.specs.declared.view.View.{View}
use Rattle.gate_rule.specs.declared.journal.Desk.{Desk}
use Rattle.gate_rule.proofs.FlagLaws.{flag_low, no_flag, only_same, only_other, without_less}
use Rattle.gate_rule.proofs.Moved.{sixteen_passes, no_entry_of_none}
use Rattle.gate_rule.proofs.TurnSteps.{long_enough}
use Rattle.gate_rule.proofs.Seats.{whole_history}

-- what is true of the history for one view is so for another of the same pass
pub same_pass : (v w : View) (log : List Entry) → w.about ≡ v.about → w.size ≡ v.size → w.own ≡ v.own → w.numbers ≡ v.numbers → w.left ≡ v.left → IsHistory v log → IsHistory w log
same_pass v w log about size own numbers left h =
    subst (λ (l : List _). IsHistory (record w { left = l }) log) (sym left)
    (subst (λ (n : List _). IsHistory (record w { left = v.left; numbers = n }) log) (sym numbers)
    (subst (λ (n : ℕ). IsHistory (record w { left = v.left; numbers = v.numbers; own = n }) log) (sym own)
    (subst (λ (n : ℕ). IsHistory (record w { left = v.left; numbers = v.numbers; own = v.own; size = n }) log) (sym size)
    (subst (λ land. IsHistory (record w { left = v.left; numbers = v.numbers; own = v.own; size = v.size; about = land }) log) (sym about)
    (record { low = h.low; mine = h.mine; flags_left = h.flags_left; legal = h.legal; short = h.short; unused = h.unused; free = h.free })))))

-- ---- a turn is entered
pub taken_slot : (before after : Sat) (slot : Option Desk) (t : Taken before after) → before.1 ≡ [] → after.1 ≡ (0, slot) ∷ rest after.1 → slot ≡ Some t.desk
taken_slot before after slot t empty found =
    let is : after.1 ≡ (0, Some t.desk) ∷ [] = ap (λ (m : Sat). m.1) t.seat ∙ ap (λ l. (0, Some t.desk) ∷ l) empty in
    ap (λ (l : List (ℕ × Option Desk)). (get_or l 0 (0, slot)).1) (sym found ∙ is)

pub entered : (m after seat : Sat) (number : ℕ) (desk : Desk) (t : Taken (with_ticket m.0 number, []) after) → desk ≡ t.desk → seat ≡ (after.0, (0, None) ∷ rest after.1) → Entered m seat desk
entered m after seat number desk t same now =
    subst (λ (x : Desk). Entered m seat x) (sym same) (record {
      log = t.log;
      number = number;
      goes_on = t.goes_on;
      history = same_pass (with_ticket m.0 number) m.0 t.log refl refl refl refl refl t.history;
      stands = t.stands;
      heights = t.heights;
      seat = now ∙ ap (λ (x : Sat). (x.0, (0, None) ∷ rest x.1)) t.seat;
    })

pub in_turn_of : (m seat : Sat) (desk : Desk) → Entered m seat desk → InTurn seat
in_turn_of m seat desk e = subst InTurn (sym e.seat) (record {
  desk = record { turn = refl; slot = refl };
  history = same_pass m.0 (in_turn (with_ticket m.0 e.number) e.log desk.book.handed) e.log refl refl refl refl refl e.history;
})

pub drawn_live : (m seat : Sat) (number : ℕ) → IsLive m.0 → seat ≡ (with_ticket m.0 number, []) → IsLive seat.0 × (seat.0.ticket ≡ Some number)
drawn_live m seat number live is = (subst (λ (x : Sat). IsLive x.0) (sym is) (record { mine = live.mine; turn = live.turn }), ap (λ (x : Sat). x.0.ticket) is)

pub found_turn : (m seat after : Sat) (number found : ℕ) → seat ≡ (with_ticket m.0 number, []) → Looked seat found after → found ≡ number % 2 ^ 64 → Taken (with_ticket m.0 number, []) after
found_turn m seat after number found is look hit = subst (λ (x : Sat). Taken x after) is (look.mine number (ap (λ (x : Sat). x.0.ticket) is) hit)

pub has_slot : (before after : Sat) (t : Taken before after) → (old : Option Desk) × (after.1 ≡ (0, old) ∷ rest after.1)
has_slot before after t =
    let e : after.1 ≡ (0, Some t.desk) ∷ before.1 = ap (λ (m : Sat). m.1) t.seat in
    (Some t.desk, e ∙ ap (λ l. (0, Some t.desk) ∷ rest l) (sym e))

-- ---- the turn is passed on
pub may_pass : (m seat : Sat) (desk : Desk) → HasDesk m → Stands (ground_of m.0) m.0.seen m.0.handed desk → seat ≡ (m.0, (0, Some desk) ∷ rest m.1) → MayPass seat
may_pass m seat desk t stands now = subst MayPass (sym now) (record { turn = t.turn; desk = desk; stands = stands; slot = ap (λ l. (0, Some desk) ∷ rest l) t.slot })

pub left_of : (m seat after : Sat) → seat.0 ≡ m.0 → PassedOn seat after → Left m after
left_of m seat after same p =
    let is : after ≡ (out_of_turn m.0, []) = p.seat ∙ ap (λ (v : View). (out_of_turn v, [])) same in
    let history : IsHistory m.0 m.0.seen = subst (λ (v : View). IsHistory v v.seen) same p.history in
    record {
      seat = is;
      rests = subst Rests (sym is) (record {
        live = record { mine = history.mine; turn = refl };
        ticket = refl;
        slots = refl;
        history = same_pass m.0 (out_of_turn m.0) m.0.seen refl refl refl refl refl history;
      });
      told = subst (λ (v : View). GoesOn v.told_of v.told v.seen) same p.told;
    }

-- ---- an entry is noted
one_move : (event : Event) → adds event ≡ cond (is_move event) 1 0
one_move (Move x y a) = refl
one_move Claim = refl
one_move Finish = refl
one_move (Publish level) = refl
one_move Begin = refl
one_move End = refl

legal_more : (v : View) (e : Entry) (desk : Desk) → IsHistory v v.seen → IsAnswered v e desk → IsLegal (ground_of v) (v.seen ++ e ∷ [])
legal_more v e desk h a =
    let g : Ground = ground_of v in
    let many = sixteen_passes g v.seen in
    let low = h.low in
    let own = a.own in
    (legal_with_one_more (start_state g.size g.land.levels) v.seen e).1 (h.legal, (omega arith, a.allowed, a.plan.answered))

pub room_more : (v : View) (e : Entry) (desk : Desk) → IsHistory v v.seen → IsAnswered v e desk → (places_in (ground_of v) (v.seen ++ e ∷ []) ≡ places_in (ground_of v) v.seen + places_of e.event e.answer) × (length v.seen < 1048576)
room_more v e desk h a =
    let g : Ground = ground_of v in
    let more : places_in g (v.seen ++ e ∷ []) ≡ places_in g v.seen + places_of e.event e.answer = places_with_one_more g.size g.land.levels v.seen e (legal_more v e desk h a) in
    let long = long_enough g (v.seen ++ e ∷ []) in
    let one : length (v.seen ++ e ∷ []) ≡ length v.seen + 1 = length-append v.seen (e ∷ []) in
    let room = a.room in
    (more, omega arith)

pub adds_of : (v : View) (e : Entry) (desk new : Desk) → IsHistory v v.seen → IsAnswered v e desk → new.book ≡ desk.book → new.journal ≡ desk.journal ++ e ∷ [] → new.taken ≡ desk.taken + places_of e.event e.answer → Adds v e new
adds_of v e desk new h a book journal taken =
    let g : Ground = ground_of v in
    let more = (room_more v e desk h a).0 in
    let room = a.room in
    record {
      own = a.own;
      stands = record {
        state = ap (λ b. b.plan.state) book ∙ a.plan.state ∙ sym (states_after_one_more (start_state g.size g.land.levels) v.seen e);
        moves = ap (λ b. b.plan.moves) book ∙ a.plan.moves ∙ ap (λ (n : ℕ). moves v.seen + n) (one_move e.event) ∙ sym (moves_with_one_more v.seen e);
        land = ap (λ b. b.land) book ∙ a.land;
        handed = refl;
        journal = journal ∙ ap (λ l. l ++ e ∷ []) a.journal;
        taken = taken ∙ ap (λ (n : ℕ). n + places_of e.event e.answer) a.taken ∙ sym more;
      };
      legal = legal_more v e desk h a;
      others = λ q ne. ap (λ b. handed_to b.handed q) book ∙ a.others q ne;
      room = omega arith;
    }

pub after_entry : (m seat : Sat) (e : Entry) (desk : Desk) → InTurn m → Adds m.0 e desk → Counted desk m seat → InTurn seat × Stands (ground_of seat.0) seat.0.seen seat.0.handed desk
after_entry m seat e desk t a now =
    let v : View = m.0 in
    let w : View = with_entry v desk in
    let is : v.seen ++ e ∷ [] ≡ desk.journal = sym a.stands.journal in
    let stands : Stands (ground_of v) desk.journal desk.book.handed desk = subst (λ l. Stands (ground_of v) l desk.book.handed desk) is a.stands in (
      subst InTurn (sym now.seat) (record { desk = record { turn = t.desk.turn; slot = t.desk.slot }; history = same_pass v w desk.journal refl refl refl refl refl now.history }),
      subst (λ (x : Sat). Stands (ground_of x.0) x.0.seen x.0.handed desk) (sym now.seat) stands,
    )

pub noted : (m seat after : Sat) (e : Entry) (desk new : Desk) → Adds m.0 e new → new.book ≡ desk.book → Counted new m seat → Left seat after → Noted m after e desk
noted m seat after e desk new a book now l =
    let v : View = m.0 in
    let is : after ≡ (rested v (v.seen ++ e ∷ []) (handed_to desk.book.handed v.own), []) =
    l.seat ∙ ap (λ (x : Sat). (out_of_turn x.0, [])) now.seat
    ∙ ap (λ log. (rested v log (handed_to new.book.handed v.own), [])) a.stands.journal
    ∙ ap (λ b. (rested v (v.seen ++ e ∷ []) (handed_to b.handed v.own), [])) book in
    record { seat = is; rests = l.rests }

pub takes_over : (m u before seat after : Sat) (desk : Desk) → Entered m before desk → seat ≡ (joined before.0 u.0, before.1) → Left seat after → TakesOver m u after
takes_over m u before seat after desk e is l =
    let v : View = in_turn (with_ticket m.0 e.number) e.log desk.book.handed in
    let both : seat.0 ≡ joined v u.0 = ap (λ (x : Sat). x.0) is ∙ ap (λ (x : Sat). joined x.0 u.0) e.seat in
    record {
      log = e.log;
      own = e.goes_on;
      theirs = subst (λ (x : View). GoesOn x.told_of x.told x.seen) both l.told;
      seat = l.seat ∙ ap (λ (x : View). (out_of_turn x, [])) both;
      rests = l.rests;
    }

-- ---- the start
pub first_rests : (g : Ground) → Rests (first_view g, [])
first_rests g = record {
  live = record { mine = refl; turn = refl };
  ticket = refl;
  slots = refl;
  history = record {
    low = omega arith;
    mine = refl;
    flags_left = refl;
    legal = tt;
    short = (let none : places_in g [] ≡ 0 = no_entry_no_place g.size g.land.levels in omega arith);
    unused = λ p is. no_entry_of_none p;
    free = λ p is ne. no_entry_no_part g.size g.land.levels [] p (no_entry_of_none p);
  };
}

-- ---- a pass is split
pub kept_rests : (m seat : Sat) → Rests m → seat ≡ (kept_back m.0, m.1) → Rests seat
kept_rests m seat r is = subst Rests (sym is) (record {
  live = record { mine = r.live.mine; turn = r.live.turn };
  ticket = r.ticket;
  slots = r.slots;
  history = record {
    low = r.history.low;
    mine = r.history.mine;
    flags_left = length-set m.0.left (least m.0.left) false ∙ r.history.flags_left;
    legal = r.history.legal;
    short = r.history.short;
    unused = λ p left. r.history.unused p (without_less m.0.left (least m.0.left) p left);
    free = r.history.free;
  };
})

only_is : (q p : ℕ) → flag (only q) p ≡ true → p ≡ q
only_is q p is = dite (ℕ_discrete p q) (λ same. same) (λ ne. absurd (true≢false (sym is ∙ only_other q p ne)))

pub given_rests : (m seat : Sat) → Rests m → flag m.0.left (least m.0.left) ≡ true → seat ≡ (given_away m.0, []) → Rests seat
given_rests m seat r some-left is =
    let q : ℕ = least m.0.left in
    let near = flag_low m.0.left q some-left in
    let long = r.history.flags_left in
    let low : q < 16 = omega arith in
    subst Rests (sym is) (record {
      live = record { mine = only_same q low; turn = refl };
      ticket = refl;
      slots = refl;
      history = record {
        low = low;
        mine = only_same q low;
        flags_left = refl;
        legal = r.history.legal;
        short = r.history.short;
        unused = λ p left. absurd (true≢false (sym left ∙ no_flag p));
        free = λ p mine ne. absurd (ne (only_is q p mine));
      };
    })

-- ---- the end
pub read_or : {A : Type 0} (l : List A) (i : ℕ) (a d : A) → get_elem? l i ≡ some a → get_or l i d ≡ a
read_or [] i a d e = absurd (some-ne-none a (sym e))
read_or (x ∷ xs) zero a d e = some-injective x a e
read_or (x ∷ xs) (suc i) a d e = read_or xs i a d e

pub ends_slot : (v : View) (xs : List (Option Desk)) (slot : Option Desk) (e : Ends v xs) → get_elem? xs 0 ≡ some slot → slot ≡ Some e.desk
ends_slot v xs slot e found = some-injective _ _ (sym found ∙ e.slot)

desks_same : (a b : Desk) → Some a ≡ Some b → a ≡ b
desks_same a b e = cc

pub ends_with : (v : View) (xs : List (Option Desk)) (slot : Option Desk) (desk : Desk) → Ends v xs → get_elem? xs 0 ≡ some slot → slot ≡ Some desk → EndsWith v desk
ends_with v xs slot desk e found is =
    let same : e.desk ≡ desk = desks_same e.desk desk (sym (ends_slot v xs slot e found) ∙ is) in
    subst (EndsWith v) same (record { log = e.log; goes_on = e.goes_on; history = e.history; stands = e.stands; heights = e.heights })

pub ends_whole : (v : View) (desk : Desk) → EndsWith v desk → HasAll v → desk.journal ≡ v.seen
ends_whole v desk e all = e.stands.journal ∙ whole_history v e.log all e.history e.goes_on
