-- What the words of a command and the files come to, with the number of files that are fetched for it.
use Rattle.std.specs.Prelude.{◌≡◌, ℕ, ◌+◌, List, [], ◌∷◌, Result, Ok, Err, ⊤}
use Rattle.clipmap_prog.specs.Faults.{Cause, cause_of}
use Rattle.run_actions.specs.declared.halt.Halt.TheVariants as halt
use Rattle.clipmap_prog.specs.declared.reading.Stop.{Stop}
use Rattle.clipmap_prog.specs.declared.reading.Stop.TheVariants as stop

-- a reading: how many files it fetches, and what it finds or why it is refused
pub record Reading (A : Type 0) : Type 0 where
  pub fetches : ℕ
  pub found : Result A Cause

-- a reading without a fetch, and one of a single fetch
abbrev pub unfetched : {A : Type 0} → Result A Cause → Reading A
unfetched found = record { fetches = 0; found = found }

abbrev pub fetched : {A : Type 0} → Result A Cause → Reading A
fetched found = record { fetches = 1; found = found }

-- a reading that goes on, where it isn't refused, after so many fetches
abbrev pub goes_on : {A B : Type 0} → ℕ → Result A Cause → (A → Reading B) → Reading B
goes_on fetches (Err cause) next = record { fetches = fetches; found = Err cause }
goes_on fetches (Ok found) next = record { fetches = fetches + (next found).fetches; found = (next found).found }

-- a reading, and then another of what it found
abbrev pub and_then : {A B : Type 0} → Reading A → (A → Reading B) → Reading B
and_then reading next = goes_on reading.fetches reading.found next

-- a reading of each of some items in its turn, up to the first that is refused
abbrev pub each_of : {A B : Type 0} → (A → Reading B) → List A → Reading (List B)
each_of read [] = unfetched (Ok [])
each_of read (item ∷ items) =
    and_then (read item) (λ first. and_then (each_of read items) (λ rest. unfetched (Ok (first ∷ rest))))

-- what the code's reading answered, against what is meant to be found: what it found stands for that, or it has that
-- cause
abbrev pub Finds : {A B : Type 0} → (A → B) → Result A Stop → Result B Cause → Type 0
Finds stands_for (Ok found) meant = meant ≡ Ok (stands_for found)
Finds stands_for (Err (stop.Refused fault)) meant = meant ≡ Err (cause_of fault)
Finds stands_for (Err (stop.Halted _)) meant = ⊤

-- this holds where the reading halted since the shelf failed; a reading calls no sink
abbrev pub OnStop : {A : Type 0} → Result A Stop → Type 0 → Type 0
OnStop (Ok _) shelf_rose = ⊤
OnStop (Err (stop.Refused _)) shelf_rose = ⊤
OnStop (Err (stop.Halted halt.ShelfFailed)) shelf_rose = shelf_rose
OnStop (Err (stop.Halted halt.SinkFailed)) shelf_rose = ⊥
OnStop (Err (stop.Halted halt.NoMemory)) shelf_rose = ⊤
