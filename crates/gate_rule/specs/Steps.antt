-- What the calls over a table of the gate ask and promise.
use Rattle.std.specs.Prelude.{◌≡◌, ℕ, ◌+◌, ◌≤◌, ℤ, true, false, List, [], ◌∷◌, ◌++◌, None}
use Rattle.atomic_table.specs.Seated.{TableId}
use Rattle.plan_model.specs.Histories.{IsAllowed, moves}
use Rattle.plan_model.specs.declared.events.Entry.{Entry}
use Rattle.plan_model.specs.declared.events.JobNote.{JobNote}
use Rattle.plan_holds.specs.Kept.{HasJob}
use Rattle.plan_histories.specs.Places.{places_of}
use Rattle.book_plan.specs.Books.{Does as Plans}
use Rattle.clip_book.specs.Tiles.{handed_to}
use Rattle.gate_rule.specs.Rule.{Ground, ground_of, state_in, places_in, GoesOn, Stands, with_ticket, joined}
use Rattle.gate_rule.specs.Plays.{Sat, in_turn, out_of_turn, IsLive, IsHistory}
use Rattle.gate_rule.specs.declared.view.View.{View}
use Rattle.gate_rule.specs.declared.journal.Desk.{Desk}
use Rattle.gate_rule.specs.declared.rule.Key.{Key}

-- what a table is about
abbrev pub ground_in : Key → Ground
ground_in key = record { land = key.about.value; size = key.size }

-- a seat is of a table with the three words and the slot of the gate
pub record IsSeatOf (seat table : TableId) : Type 0 where
  pub same : seat ≡ table
  pub words : table.words ≡ 3
  pub slots : table.slots ≡ 1

-- a pass waits for nothing and has no slot
pub record Rests (m : Sat) : Type 0 where
  pub live : IsLive m.0
  pub ticket : m.0.ticket ≡ None
  pub slots : m.1 ≡ []
  pub history : IsHistory m.0 m.0.seen

-- it is a pass's turn, and it has taken the desk out of its slot
pub record HasDesk (m : Sat) : Type 0 where
  pub turn : m.0.turn ≡ true
  pub slot : m.1 ≡ (0, None) ∷ []

pub record InTurn (m : Sat) : Type 0 where
  pub desk : HasDesk m
  pub history : IsHistory m.0 m.0.seen

-- a pass has entered its turn: the history has gone on, by entries of others, and the desk stands for it
pub record Entered (before after : Sat) (desk : Desk) : Type 0 where
  pub log : List Entry
  pub number : ℕ
  pub goes_on : GoesOn before.0.numbers before.0.seen log
  pub history : IsHistory before.0 log
  pub stands : Stands (ground_of before.0) log desk.book.handed desk
  pub heights : (note : JobNote) → HasJob (state_in (ground_of before.0) log) before.0.own note →
      handed_to desk.book.handed before.0.own ≡ before.0.heights
  pub seat : after ≡ (in_turn (with_ticket before.0 number) log desk.book.handed, (0, None) ∷ [])

-- the book has answered an event of a pass in its turn, and the journal is as before
pub record IsAnswered (v : View) (e : Entry) (desk : Desk) : Type 0 where
  pub own : e.pass ≡ v.own
  pub allowed : IsAllowed (state_in (ground_of v) v.seen) e.pass e.event
  pub plan : Plans e.pass e.event e.answer
      (record { state = state_in (ground_of v) v.seen; moves = moves v.seen }) desk.book.plan
  pub land : desk.book.land ≡ v.about
  pub others : (q : ℕ) → (q ≡ v.own → ⊥) → handed_to desk.book.handed q ≡ handed_to v.handed q
  pub journal : desk.journal ≡ v.seen
  pub taken : desk.taken ≡ places_in (ground_of v) v.seen
  pub room : places_in (ground_of v) v.seen + places_of e.event e.answer ≤ 1048576

-- a view at rest, with a history and the heights of a job
abbrev pub rested : View → List Entry → List ℤ → View
rested v log heights = record v {
  seen = log;
  heights = heights;
  ticket = None;
  turn = false;
  handed = [];
  told = [];
  told_of = [];
}

-- the entry is in the history, and the turn is passed on
pub record Noted (before after : Sat) (e : Entry) (desk : Desk) : Type 0 where
  pub seat : after ≡ (rested before.0 (before.0.seen ++ e ∷ []) (handed_to desk.book.handed before.0.own), [])
  pub rests : Rests after

-- the turn is passed on without an entry
pub record Left (before after : Sat) : Type 0 where
  pub seat : after ≡ (out_of_turn before.0, [])
  pub rests : Rests after
  pub told : GoesOn before.0.told_of before.0.told before.0.seen

-- one pass has taken another over: the history goes on from both, by no entry of a number of theirs
pub record TakesOver (before other after : Sat) : Type 0 where
  pub log : List Entry
  pub own : GoesOn before.0.numbers before.0.seen log
  pub theirs : GoesOn other.0.numbers other.0.seen log
  pub seat : after ≡ (rested (joined before.0 other.0) log before.0.heights, [])
  pub rests : Rests after

-- a clip ends with this desk, as a pass of it knows
pub record EndsWith (v : View) (desk : Desk) : Type 0 where
  pub log : List Entry
  pub goes_on : GoesOn v.numbers v.seen log
  pub history : IsHistory v log
  pub stands : Stands (ground_of v) log desk.book.handed desk
  pub heights : (note : JobNote) → HasJob (state_in (ground_of v) log) v.own note →
      handed_to desk.book.handed v.own ≡ v.heights
