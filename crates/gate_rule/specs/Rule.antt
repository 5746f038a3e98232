-- The rule of the gate: what is true of the words, the slot and all passes' views between any two steps.
use Rattle.std.specs.Prelude.{◌≡◌, ℕ, ◌+◌, ◌%◌, ◌^◌, ◌<◌, ◌≤◌, ◌⊎◌, ℤ, Bool, true, false, List, [], ◌∷◌, ◌++◌, length, Option, Some, None}
use mathlib.Core.Option.{Option as Maybe, none, some}
use lib.ListN.{get_elem?}
use Rattle.atomic_table.specs.Table.{State as Table}
use Rattle.plan_model.specs.States.{State, pass_at}
use Rattle.plan_model.specs.Histories.{IsLegalHistory, state_of_history, places, moves}
use Rattle.plan_model.specs.declared.events.Entry.{Entry}
use Rattle.plan_model.specs.declared.events.JobNote.{JobNote}
use Rattle.plan_model.specs.declared.events.Work.TheVariants.{Free}
use Rattle.plan_holds.specs.Kept.{HasJob}
use Rattle.terrain_store.specs.Shapes.{Land}
use Rattle.clip_book.specs.Tiles.{handed_to}
use Rattle.gate_rule.specs.Flags.{flag, no_flags, only, all_but_first, without, either_flags, least, one_if, how_many, HasNoneOf}
use Rattle.gate_rule.specs.declared.view.View.{View}
use Rattle.gate_rule.specs.declared.journal.Desk.{Desk}

-- what a clip is about: a terrain with its levels, and K
pub record Ground : Type 0 where
  pub land : Land
  pub size : ℕ

-- a history over it is legal; the state that it leaves, and the places that it takes
abbrev pub IsLegal : Ground → List Entry → Type 0
IsLegal g log = IsLegalHistory g.size g.land.levels log

abbrev pub state_in : Ground → List Entry → State
state_in g log = state_of_history g.size g.land.levels log

abbrev pub places_in : Ground → List Entry → ℕ
places_in g log = places g.size g.land.levels log

-- a history goes on from an older one, with no entry of the numbers that are flagged
pub record GoesOn (flags : List Bool) (old new : List Entry) : Type 0 where
  pub between : List Entry
  pub is : new ≡ old ++ between
  pub others : HasNoneOf flags between

-- a book and its journal stand for a history, and for what was handed to each pass
pub record Stands (g : Ground) (log : List Entry) (out : List (Option (List ℤ))) (desk : Desk) : Type 0 where
  pub state : desk.book.plan.state ≡ state_in g log
  pub moves : desk.book.plan.moves ≡ moves log
  pub land : desk.book.land ≡ g.land
  pub handed : desk.book.handed ≡ out
  pub journal : desk.journal ≡ log
  pub taken : desk.taken ≡ places_in g log

-- how a clip stands: its history, what was handed to each pass, and the tickets that is served and that is drawn next,
-- both counted without end
pub record Standing : Type 0 where
  pub log : List Entry
  pub out : List (Option (List ℤ))
  pub serving : ℕ
  pub next : ℕ

abbrev pub Homes : Type 0
Homes = List (Maybe (Option Desk))

abbrev pub ground_of : View → Ground
ground_of v = record { land = v.about; size = v.size }

-- ---- the views
-- the view of the first pass, and of one that was joined away
abbrev pub view_of : Ground → ℕ → List Bool → List Bool → List Entry → View
view_of g own numbers left seen = record {
  about = g.land;
  size = g.size;
  own = own;
  numbers = numbers;
  left = left;
  seen = seen;
  heights = [];
  ticket = None;
  turn = false;
  handed = [];
  told = [];
  told_of = [];
}

abbrev pub first_view : Ground → View
first_view g = view_of g 0 (only 0) all_but_first []

abbrev pub no_land : Land
no_land = record { terrain = record { width = 0; height = 0; table = [] }; levels = 0 }

abbrev pub spent : View
spent = view_of (record { land = no_land; size = 0 }) 0 [] [] []

-- a pass that splits, and the one that it makes
abbrev pub kept_back : View → View
kept_back v = record v { left = without v.left (least v.left) }

abbrev pub given_away : View → View
given_away v = view_of (ground_of v) (least v.left) (only (least v.left)) no_flags v.seen

-- a pass in its turn that joins another
abbrev pub joined : View → View → View
joined v u = record v {
  numbers = either_flags v.numbers u.numbers;
  left = either_flags v.left u.left;
  told = u.seen;
  told_of = u.numbers;
}

abbrev pub with_ticket : View → ℕ → View
with_ticket v t = record v { ticket = Some t }

-- ---- what is counted over all views
abbrev pub total : (View → ℕ) → List View → ℕ
total f [] = 0
total f (v ∷ vs) = f v + total f vs

abbrev pub has_number : ℕ → View → ℕ
has_number p v = one_if (flag v.numbers p) + one_if (flag v.left p)

abbrev pub one_ticket : Option ℕ → ℕ
one_ticket None = 0
one_ticket (Some t) = 1

abbrev pub has_ticket : View → ℕ
has_ticket v = one_ticket v.ticket

abbrev pub left_count : View → ℕ
left_count v = how_many v.left

-- ---- the rule
-- what the pass whose turn it is knows while the book is out
pub record HasTurn (st : Standing) (homes : Homes) (v : View) : Type 0 where
  pub ticket : v.ticket ≡ Some st.serving
  pub seen : v.seen ≡ st.log
  pub handed : v.handed ≡ st.out
  pub slot : homes ≡ none ∷ []
  pub told : GoesOn v.told_of v.told st.log

-- how a view fits the clip
pub record Fits (g : Ground) (st : Standing) (homes : Homes) (v : View) : Type 0 where
  pub about : v.about ≡ g.land
  pub size : v.size ≡ g.size
  pub low : v.own < 16
  pub mine : flag v.numbers v.own ≡ true
  pub flags : length v.numbers ≡ 16
  pub flags_left : length v.left ≡ 16
  -- its history is a front of the clip's, and what came since is of others
  pub seen : GoesOn v.numbers v.seen st.log
  -- of its numbers only its own may have a job or a frame, and one left to give has no entry
  pub free : (p : ℕ) → flag v.numbers p ≡ true → (p ≡ v.own → ⊥) → pass_at (state_in g st.log) p ≡ Free
  pub unused : HasNoneOf v.left st.log
  -- it has the 64 heights of its job
  pub heights : (note : JobNote) → HasJob (state_in g st.log) v.own note → handed_to st.out v.own ≡ v.heights
  pub ticket : (t : ℕ) → v.ticket ≡ Some t → (st.serving ≤ t) × (t < st.next)
  pub turn : v.turn ≡ true → HasTurn st homes v

-- the book is at home, or some pass has it
pub record IsHome (g : Ground) (st : Standing) (homes : Homes) : Type 0 where
  pub desk : Desk
  pub stands : Stands g st.log st.out desk
  pub slot : homes ≡ some (Some desk) ∷ []

pub record IsOut (views : List View) : Type 0 where
  pub seat : ℕ
  pub view : View
  pub there : get_elem? views seat ≡ some view
  pub turn : view.turn ≡ true

pub record Kept (g : Ground) (s : Table (Option Desk) View) : Type 0 where
  pub st : Standing
  pub words : s.words ≡ st.next % 2 ^ 64 ∷ st.serving % 2 ^ 64 ∷ length st.log ∷ []
  pub short : places_in g st.log ≤ 1048576
  pub legal : IsLegal g st.log
  pub each : (i : ℕ) (v : View) → get_elem? s.views i ≡ some v → (v ≡ spent) ⊎ Fits g st s.homes v
  -- tickets that are out differ, each number is in one view, and each ticket between the two is out
  pub apart : (i j : ℕ) (v w : View) (t : ℕ) → get_elem? s.views i ≡ some v → get_elem? s.views j ≡ some w →
      v.ticket ≡ Some t → w.ticket ≡ Some t → i ≡ j
  pub numbers : (p : ℕ) → p < 16 → total (has_number p) s.views ≡ 1
  pub seats : length s.views + total left_count s.views ≤ 16
  pub tickets : st.serving + total has_ticket s.views ≡ st.next
  pub place : IsHome g st s.homes ⊎ IsOut s.views

-- a desk of no book, for a name that stands for some desk
abbrev pub no_desk : Desk
no_desk = record {
  book = record {
    plan = record { state = state_in (record { land = no_land; size = 0 }) []; moves = 0 };
    land = no_land;
    handed = [];
  };
  journal = [];
  taken = 0;
}
