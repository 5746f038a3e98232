-- What a run did of a list of actions, however it ended: all of them, or a front of them and what the refusal of the
-- next one left.
use Rattle.std.specs.Prelude.{◌≡◌, ℕ, ◌+◌, ◌≤◌, List, [], ◌∷◌, ◌++◌, Option, None, option_map, IsSomeAnd, MatchOption, Result, Ok, Err, ◌⊎◌, ⊤}
use Rattle.outer_shelf.specs.Counts.{Rose}
use Rattle.outer_shelf.specs.Outside.{AppendsFront, Files, SameElsewhere, ShelfTold, SinkTold, files_with}
use Rattle.run_actions.specs.Actions.{Action, Put, Write, Content, Same, act, content_after, content_of, put_count, write_count}
use Rattle.run_actions.specs.declared.halt.Halt.{Halt}
use Rattle.run_actions.specs.declared.halt.Halt.TheVariants as halt

-- a shelf's own word for what a refused put of these bytes under that name may leave, of the files before and after
abbrev pub Leaving : Type 1
Leaving = List ℕ → List ℕ → Option Files → Option Files → Type 0

-- a shelf that isn't called leaves nothing of a put
abbrev pub leaves_nothing : Leaving
leaves_nothing name bytes before now = ⊥

-- what a refused put leaves: that name may hold anything that the shelf says, and all else is as before
pub record RefusedPut (leaves : Leaving) (name bytes : List ℕ) (before now : Content) : Type 0 where
  pub left : leaves name bytes before.files now.files
  pub elsewhere : SameElsewhere name before.files now.files
  pub written : now.written ≡ before.written

-- what a refused write leaves: a front of the piece is appended, and all else is as before
pub record RefusedWrite (piece : List ℕ) (before now : Content) : Type 0 where
  pub files : now.files ≡ before.files
  pub front : AppendsFront piece before.written now.written

-- what a halt at this action leaves
abbrev pub LeftBy : Leaving → Halt → Action → Content → Content → Type 0
LeftBy leaves halt.ShelfFailed (Put name bytes) before now = RefusedPut leaves name bytes before now
LeftBy leaves halt.ShelfFailed (Write _) before now = ⊥
LeftBy leaves halt.SinkFailed (Put _ _) before now = ⊥
LeftBy leaves halt.SinkFailed (Write piece) before now = RefusedWrite piece before now
LeftBy leaves halt.NoMemory (Put name bytes) before now = RefusedPut leaves name bytes before now
LeftBy leaves halt.NoMemory (Write piece) before now = RefusedWrite piece before now

-- a run halted in these actions: before the first of them, or at it, or that one was done and it halted in the others
abbrev pub HaltedIn : Leaving → Halt → List Action → Content → Content → Type 0
HaltedIn leaves halt [] before now = Same before now
HaltedIn leaves halt (action ∷ actions) before now =
    Same before now ⊎ (LeftBy leaves halt action before now ⊎ HaltedIn leaves halt actions (act action before) now)

-- what a run did of these actions: all of them, or it halted in them
abbrev pub Did : {A : Type 0} → Leaving → List Action → Result A Halt → Content → Content → Type 0
Did leaves actions (Ok _) before now = Same (content_after actions before) now
Did leaves actions (Err halt) before now = HaltedIn leaves halt actions before now

-- a count of calls that is told is at most so many higher than before
abbrev pub CallsWithin : ℕ → Option ℕ → Option ℕ → Type 0
CallsWithin most before now = MatchOption before (now ≡ None) (λ calls. IsSomeAnd now (λ later. later ≤ calls + most))

-- a run of these actions after so many fetches: what it did, by no more calls than it has fetches, puts and writes
pub record Ran {A : Type 0} (leaves : Leaving) (fetches : ℕ) (actions : List Action) (result : Result A Halt)
    (shelf shelf' : ShelfTold) (sink sink' : SinkTold) : Type 0 where
  pub did : Did leaves actions result (content_of shelf sink) (content_of shelf' sink')
  pub shelf_calls : CallsWithin (fetches + put_count actions) shelf.calls shelf'.calls
  pub sink_calls : CallsWithin (write_count actions) sink.calls sink'.calls

-- this holds of the shelf where it halted the run, and that of the sink where it did
abbrev pub OnHalt : {A : Type 0} → Result A Halt → Type 0 → Type 0 → Type 0
OnHalt (Ok _) shelf_rose sink_rose = ⊤
OnHalt (Err halt.ShelfFailed) shelf_rose sink_rose = shelf_rose
OnHalt (Err halt.SinkFailed) shelf_rose sink_rose = sink_rose
OnHalt (Err halt.NoMemory) shelf_rose sink_rose = ⊤

-- a run had a reason to halt: the count of faults of the shelf or the sink rose. No count fell
pub record HadReason {A : Type 0} (result : Result A Halt) (shelf shelf' : ShelfTold)
    (sink sink' : SinkTold) : Type 0 where
  pub reason : OnHalt result (Rose shelf.faults shelf'.faults) (Rose sink.faults sink'.faults)
  pub shelf_stays : shelf.faults ≤ shelf'.faults
  pub sink_stays : sink.faults ≤ sink'.faults

-- what a put did to the files
abbrev pub PutEnds : Leaving → List ℕ → List ℕ → Result (Unit {0}) Halt → Option Files → Option Files → Type 0
PutEnds leaves name bytes (Ok _) before now = now ≡ option_map (files_with name bytes) before
PutEnds leaves name bytes (Err halt.SinkFailed) before now = ⊥
PutEnds leaves name bytes (Err _) before now = leaves name bytes before now × SameElsewhere name before now

-- what the writing of a piece did to the bytes written: where memory was wanting, perhaps nothing
abbrev pub WriteEnds : List ℕ → Result (Unit {0}) Halt → Option (List ℕ) → Option (List ℕ) → Type 0
WriteEnds piece (Ok _) before now = now ≡ option_map (λ bytes. bytes ++ piece) before
WriteEnds piece (Err halt.ShelfFailed) before now = ⊥
WriteEnds piece (Err halt.SinkFailed) before now = AppendsFront piece before now
WriteEnds piece (Err halt.NoMemory) before now = (now ≡ before) ⊎ AppendsFront piece before now
