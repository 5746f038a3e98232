-- Runs of events, and the histories that they leave.
use Rattle.std.specs.Prelude.{◌≡◌, ℕ, ◌+◌, ◌<◌, Bool, true, false, List, [], ◌∷◌, ◌++◌, All, fold, length, count_by, IsSome}
use Rattle.plan_model.specs.Limits.{IsViewer}
use Rattle.plan_model.specs.States.{State, start_state, pass_at, job_of, has_work}
use Rattle.plan_model.specs.Steps.{step}
use Rattle.plan_model.specs.declared.events.Event.{Event}
use Rattle.plan_model.specs.declared.events.Event.TheVariants.{Move, Claim, Finish, Publish, Begin, End}
use Rattle.plan_model.specs.declared.events.Entry.{Entry}

-- an event of a pass
pub record Asked : Type 0 where
  pub pass : ℕ
  pub event : Event

-- what a run of events left: the state, and each event with its answer, the oldest first
pub record Run : Type 0 where
  pub state : State
  pub history : List Entry

-- the event of an entry
abbrev pub asked_by : Entry → Asked
asked_by entry = record { pass = entry.pass; event = entry.event }

-- a run of no event
abbrev pub run_from : State → Run
run_from st = record { state = st; history = [] }

-- a run with one more event
unfoldable pub then_step : Run → ℕ → Event → Run
then_step run p event =
    let next = step run.state p event in
    record {
      state = next.state;
      history = run.history ++ record { pass = p; event = event; answer = next.answer } ∷ [];
    }

-- the run of a list of events from a state
unfoldable pub run : State → List Asked → Run
run st events = fold (λ r asked. then_step r asked.pass asked.event) (run_from st) events

-- what an event asks of the state: a job to give back, a level that is there, a viewer within the limits
abbrev pub IsAllowed : State → ℕ → Event → Type 0
IsAllowed st p (Move x y a) = IsViewer x y a
IsAllowed st p Claim = Unit {0}
IsAllowed st p Finish = IsSome (job_of (pass_at st p))
IsAllowed st p (Publish level) = level < length st.levels
IsAllowed st p Begin = Unit {0}
IsAllowed st p End = Unit {0}

-- from a state, each entry's pass is there, its event is allowed, and its answer is the one that the event has
abbrev pub IsLegalFrom : State → List Entry → Type 0
IsLegalFrom st [] = Unit {0}
IsLegalFrom st (e ∷ rest) =
    (e.pass < length st.passes)
    × IsAllowed st e.pass e.event
    × ((step st e.pass e.event).answer ≡ e.answer)
    × IsLegalFrom (step st e.pass e.event).state rest

-- a history is legal for K and a number of levels
abbrev pub IsLegalHistory : ℕ → ℕ → List Entry → Type 0
IsLegalHistory k levels entries = IsLegalFrom (start_state k levels) entries

-- the state that the events of a list of entries leave
unfoldable pub state_after : State → List Entry → State
state_after st entries = fold (λ s e. (step s e.pass e.event).state) st entries

-- the state of a history
abbrev pub state_of_history : ℕ → ℕ → List Entry → State
state_of_history k levels entries = state_after (start_state k levels) entries

-- the places that a history takes in a journal: its entries, and one for each pass that has a job or a frame
unfoldable pub places : ℕ → ℕ → List Entry → ℕ
places k levels entries = length entries + count_by has_work (state_of_history k levels entries).passes

-- no entry of a history is of pass p
abbrev pub HasNoEntryOf : ℕ → List Entry → Type 0
HasNoEntryOf p entries = All (λ entry. ¬ (entry.pass ≡ p)) entries

-- the event is a move
abbrev pub is_move : Event → Bool
is_move (Move x y a) = true
is_move Claim = false
is_move Finish = false
is_move (Publish level) = false
is_move Begin = false
is_move End = false

-- how many moves a history has
unfoldable pub moves : List Entry → ℕ
moves entries = count_by (λ entry. is_move entry.event) entries
