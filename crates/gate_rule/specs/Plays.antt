-- What each step tells the pass that makes it.
use lib.ListN.{get_elem?}
use mathlib.Core.Option.{some}
use Rattle.std.specs.Prelude.{◌≡◌, ℕ, ◌%◌, ◌^◌, ◌<◌, ◌≤◌, ◌⊎◌, ℤ, true, false, List, [], ◌∷◌, ◌++◌, length, Option, Some, None}
use Rattle.atomic_table.specs.Table.{Me}
use Rattle.plan_model.specs.States.{pass_at}
use Rattle.plan_model.specs.declared.events.Entry.{Entry}
use Rattle.plan_model.specs.declared.events.JobNote.{JobNote}
use Rattle.plan_model.specs.declared.events.Work.TheVariants.{Free}
use Rattle.plan_holds.specs.Kept.{HasJob}
use Rattle.clip_book.specs.Tiles.{handed_to}
use Rattle.gate_rule.specs.Flags.{flag, HasNoneOf}
use Rattle.gate_rule.specs.Rule.{ground_of, IsLegal, state_in, places_in, GoesOn, Stands, with_ticket}
use Rattle.gate_rule.specs.declared.view.View.{View}
use Rattle.gate_rule.specs.declared.journal.Desk.{Desk}

abbrev pub Sat : Type 0
Sat = Me (Option Desk) View

-- a view with the turn, and with it no more
abbrev pub in_turn : View → List Entry → List (Option (List ℤ)) → View
in_turn v log out = record v { turn = true; seen = log; handed = out; told = []; told_of = [] }

abbrev pub out_of_turn : View → View
out_of_turn v = record v { turn = false; ticket = None; handed = []; told = []; told_of = [] }

-- a view after an entry that leaves this desk
abbrev pub with_entry : View → Desk → View
with_entry v desk = record v {
  seen = desk.journal;
  handed = desk.book.handed;
  heights = handed_to desk.book.handed v.own;
  told = [];
  told_of = [];
}

-- a view of a pass that isn't joined away, and waits for nothing
pub record IsLive (v : View) : Type 0 where
  pub mine : flag v.numbers v.own ≡ true
  pub turn : v.turn ≡ false

pub record Drawn (before : Sat) (found : ℕ) (after : Sat) : Type 0 where
  pub ticket : ℕ
  pub word : found ≡ ticket % 2 ^ 64
  pub seat : after ≡ (with_ticket before.0 ticket, before.1)

-- what is true of a clip's history for a pass of it: it is legal, fits in the journal, has no entry of a number that
-- the pass has left to give, and leaves no part to its numbers but its own
pub record IsHistory (v : View) (log : List Entry) : Type 0 where
  pub low : v.own < 16
  pub mine : flag v.numbers v.own ≡ true
  pub flags_left : length v.left ≡ 16
  pub legal : IsLegal (ground_of v) log
  pub short : places_in (ground_of v) log ≤ 1048576
  pub unused : HasNoneOf v.left log
  pub free : (p : ℕ) → flag v.numbers p ≡ true → (p ≡ v.own → ⊥) → pass_at (state_in (ground_of v) log) p ≡ Free

-- the pass has taken the slot, with the book and its journal
pub record Taken (before after : Sat) : Type 0 where
  pub desk : Desk
  pub log : List Entry
  pub goes_on : GoesOn before.0.numbers before.0.seen log
  pub history : IsHistory before.0 log
  pub stands : Stands (ground_of before.0) log desk.book.handed desk
  pub heights : (note : JobNote) → HasJob (state_in (ground_of before.0) log) before.0.own note →
      handed_to desk.book.handed before.0.own ≡ before.0.heights
  pub seat : after ≡ (in_turn before.0 log desk.book.handed, (0, Some desk) ∷ before.1)

-- where the ticket that is served is the pass's own, it has its turn, and else nothing changed
pub record Looked (before : Sat) (found : ℕ) (after : Sat) : Type 0 where
  pub mine : (t : ℕ) → before.0.ticket ≡ Some t → found ≡ t % 2 ^ 64 → Taken before after
  pub other : (t : ℕ) → before.0.ticket ≡ Some t → (found ≡ t % 2 ^ 64 → ⊥) → after ≡ before

-- what an entry must be to be counted: one of the pass, legal, with a desk that stands for the history with it
pub record Adds (v : View) (e : Entry) (desk : Desk) : Type 0 where
  pub own : e.pass ≡ v.own
  pub stands : Stands (ground_of v) (v.seen ++ e ∷ []) desk.book.handed desk
  pub legal : IsLegal (ground_of v) (v.seen ++ e ∷ [])
  pub others : (q : ℕ) → (q ≡ v.own → ⊥) → handed_to desk.book.handed q ≡ handed_to v.handed q
  pub room : places_in (ground_of v) (v.seen ++ e ∷ []) ≤ 1048576

-- the entry is counted, and is in what the pass knows
pub record Counted (desk : Desk) (before after : Sat) : Type 0 where
  pub seat : after ≡ (with_entry before.0 desk, before.1)
  pub history : IsHistory before.0 desk.journal

-- what the pass may give back: the slot with a book that stands for what the pass knows
pub record MayPass (before : Sat) : Type 0 where
  pub turn : before.0.turn ≡ true
  pub desk : Desk
  pub stands : Stands (ground_of before.0) before.0.seen before.0.handed desk
  pub slot : before.1 ≡ (0, Some desk) ∷ []

-- the turn is passed on, and what was told of a pass that was joined is true of the history
pub record PassedOn (before after : Sat) : Type 0 where
  pub seat : after ≡ (out_of_turn before.0, [])
  pub history : IsHistory before.0 before.0.seen
  pub told : GoesOn before.0.told_of before.0.told before.0.seen

-- every number of a pass is one of its own or one that it has left to give
abbrev pub HasAll : View → Type 0
HasAll v = (p : ℕ) → p < 16 → (flag v.numbers p ≡ true) ⊎ (flag v.left p ≡ true)

-- what a clip ends with whose two words of tickets are equal: a book and its journal, as a pass of it knows them
pub record Ends (v : View) (slots : List (Option Desk)) : Type 0 where
  pub desk : Desk
  pub log : List Entry
  pub slot : get_elem? slots 0 ≡ some (Some desk)
  pub goes_on : GoesOn v.numbers v.seen log
  pub history : IsHistory v log
  pub stands : Stands (ground_of v) log desk.book.handed desk
  pub heights : (note : JobNote) → HasJob (state_in (ground_of v) log) v.own note →
      handed_to desk.book.handed v.own ≡ v.heights
