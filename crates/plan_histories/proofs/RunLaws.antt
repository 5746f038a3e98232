-- The laws of runs of events.
use Rattle.std.proofs.Common.{◌≡◌, List, [], ◌∷◌, ◌++◌, map, append_assoc, refl, ap, sym, ◌∙◌, subst}
use mathlib.Core.Path.{ap₂}
use Rattle.std.specs.List.{fold}
use Rattle.plan_model.specs.States.{State}
use Rattle.plan_model.specs.Steps.{step}
use Rattle.plan_model.specs.Histories.{Asked, Run, asked_by, then_step, run, IsLegalFrom, state_after}
use Rattle.plan_model.specs.declared.events.Entry.{Entry}
use Rattle.plan_histories.specs.Runs.{AllAllowedFrom, RunsAreLegal, RunsLeaveStates, RunsHaveTheirEvents, LegalHistoriesAreRuns}
use Rattle.plan_histories.proofs.LegalLaws.{after_none, after_first}

-- ---- the entries of a run
entry_of : State → Asked → Entry
entry_of st a = record { pass = a.pass; event = a.event; answer = (step st a.pass a.event).answer }

entries_of : State → List Asked → List Entry
entries_of st [] = []
entries_of st (a ∷ rest) = entry_of st a ∷ entries_of (step st a.pass a.event).state rest

state_of : State → List Asked → State
state_of st [] = st
state_of st (a ∷ rest) = state_of (step st a.pass a.event).state rest

one_then : (before : Run) (a : Asked) → then_step before a.pass a.event ≡ record { state = (step before.state a.pass a.event).state; history = before.history ++ entry_of before.state a ∷ [] }
unfolding then_step entry_of
one_then before a = refl

abbrev Left : State → List Entry → Run
Left st entries = record { state = st; history = entries }

-- a run that goes on from a state and a history
goes_on : (st : State) (before : List Entry) (events : List Asked) → fold (λ (r : Run) (a : Asked). then_step r a.pass a.event) (Left st before) events ≡ Left (state_of st events) (before ++ entries_of st events)
unfolding entries_of state_of
goes_on st before [] = ap (Left st) (sym (append_nil before))
  where
    append_nil : (xs : List Entry) → xs ++ [] ≡ xs
    append_nil [] = refl
    append_nil (x ∷ xs) = ap (λ (rest : List Entry). x ∷ rest) (append_nil xs)
goes_on st before (a ∷ rest) =
    ap (λ (r : Run). fold (λ (r : Run) (b : Asked). then_step r b.pass b.event) r rest) (one_then (Left st before) a) ∙ goes_on (step st a.pass a.event).state (before ++ entry_of st a ∷ []) rest ∙ ap (Left (state_of (step st a.pass a.event).state rest)) (append_assoc before (entry_of st a ∷ []) (entries_of (step st a.pass a.event).state rest))

run_is : (st : State) (events : List Asked) → run st events ≡ Left (state_of st events) (entries_of st events)
unfolding run
run_is st events = goes_on st [] events

-- ---- what they are
legal_entries : (st : State) (events : List Asked) → AllAllowedFrom st events → IsLegalFrom st (entries_of st events)
unfolding entries_of entry_of
legal_entries st [] h = tt
legal_entries st (a ∷ rest) h = (h.0, h.1, refl, legal_entries (step st a.pass a.event).state rest h.2)

pub runs_are_legal : RunsAreLegal
runs_are_legal st events h = subst (λ (r : Run). IsLegalFrom st r.history) (sym (run_is st events)) (legal_entries st events h)

state_after_entries : (st : State) (events : List Asked) → state_of st events ≡ state_after st (entries_of st events)
unfolding entries_of state_of entry_of
state_after_entries st [] = sym (after_none st)
state_after_entries st (a ∷ rest) =
    state_after_entries (step st a.pass a.event).state rest ∙ sym (after_first st (entry_of st a) (entries_of (step st a.pass a.event).state rest))

pub runs_leave_states : RunsLeaveStates
runs_leave_states st events =
    subst (λ (r : Run). r.state ≡ state_after st r.history) (sym (run_is st events)) (state_after_entries st events)

events_of_entries : (st : State) (events : List Asked) → map asked_by (entries_of st events) ≡ events
unfolding entries_of entry_of
events_of_entries st [] = refl
events_of_entries st (a ∷ rest) = ap (λ (more : List Asked). a ∷ more) (events_of_entries (step st a.pass a.event).state rest)

pub runs_have_their_events : RunsHaveTheirEvents
runs_have_their_events st events =
    ap (λ (r : Run). map asked_by r.history) (run_is st events) ∙ events_of_entries st events

same_entry : (st : State) (e : Entry) → (step st e.pass e.event).answer ≡ e.answer → entry_of st (asked_by e) ≡ e
unfolding entry_of
same_entry st e same = ap (λ answer. record e { answer = answer }) same

entries_again : (st : State) (entries : List Entry) → IsLegalFrom st entries → entries_of st (map asked_by entries) ≡ entries
unfolding entries_of
entries_again st [] h = refl
entries_again st (e ∷ rest) h =
    ap₂ (λ (first : Entry) (more : List Entry). first ∷ more) (same_entry st e h.2) (entries_again (step st e.pass e.event).state rest h.3)

pub legal_histories_are_runs : LegalHistoriesAreRuns
legal_histories_are_runs st entries h =
    ap (λ (r : Run). r.history) (run_is st (map asked_by entries)) ∙ entries_again st entries h
