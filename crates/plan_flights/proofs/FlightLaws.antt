-- A flight is the run of its events, and it is legal.
use Rattle.std.proofs.Common.{◌≡◌, ℕ, ◌<◌, ◌≤◌, List, [], ◌∷◌, ◌++◌, map, length, refl, ap, sym, ◌∙◌, subst, arith}
use Rattle.std.proofs.lemmas.List.Elements.{All-head, All-tail}
use Rattle.std.proofs.lemmas.List.Sums.{fold-append}
use Rattle.std.specs.List.{All, fold, range_with_len}
use Rattle.plan_model.specs.States.{State, start_state}
use Rattle.plan_model.specs.Steps.{step}
use Rattle.plan_model.specs.Sound.{IsTaken}
use Rattle.plan_model.specs.Histories.{Asked, Run, asked_by, run_from, then_step, run, IsAllowed, IsLegalFrom, state_after}
use Rattle.plan_model.specs.Rounds.{frame_pass, cells_to_fill, settle, fly_line, flight, fly_events}
use Rattle.plan_model.specs.declared.events.Entry.{Entry}
use Rattle.plan_model.specs.declared.events.Event.{Event}
use Rattle.plan_model.specs.declared.events.Event.TheVariants.{Move, Claim, Finish, Publish, Begin, End}
use Rattle.plan_model.specs.declared.events.FlyLine.{FlyLine}
use Rattle.plan_model.specs.declared.events.FlyLine.TheVariants.{Move as FlyMove, Frame as FlyFrame, Settle}
use Rattle.plan_histories.specs.Legal.{IsLegalNext}
use Rattle.plan_flights.specs.Flights.{IsFlyable, FlightsAreRuns, FlightsAreLegal}
use Rattle.plan_flights.specs.Below.{LawsBelow}
use Rattle.plan_flights.proofs.Parts.{IsSomeSound, sound_after, there_with_job}
use Rattle.plan_flights.proofs.Ripe.{ripe_there}
use Rattle.plan_flights.proofs.Falls.{AnyPass}
use Rattle.plan_flights.proofs.Still.{IsWorker, passes_there, workers_in}
use Rattle.plan_flights.proofs.Phases.{Closed, by_round, by_rounds}

-- ---- runs
IsRunOf : State → Run → Type 0
IsRunOf first r = run first (map asked_by r.history) ≡ r

run_more : (first : State) (events : List Asked) (a : Asked) → run first (events ++ a ∷ []) ≡ then_step (run first events) a.pass a.event
unfolding run
run_more first events a = fold-append (λ (r : Run) (b : Asked). then_step r b.pass b.event) (run_from first) events (a ∷ [])

map_more : (entries : List Entry) (e : Entry) → map asked_by (entries ++ e ∷ []) ≡ map asked_by entries ++ asked_by e ∷ []
map_more [] e = refl
map_more (x ∷ entries) e = ap (λ (rest : List Asked). asked_by x ∷ rest) (map_more entries e)

events_then : (r : Run) (p : ℕ) (event : Event) → map asked_by (then_step r p event).history ≡ map asked_by r.history ++ record { pass = p; event = event } ∷ []
unfolding then_step
events_then r p event = map_more r.history (record { pass = p; event = event; answer = (step r.state p event).answer })

run_step : (first : State) (r : Run) (p : ℕ) (event : Event) → IsRunOf first r → IsRunOf first (then_step r p event)
unfolding IsRunOf
run_step first r p event h =
    ap (run first) (events_then r p event) ∙ run_more first (map asked_by r.history) (record { pass = p; event = event }) ∙ ap (λ (before : Run). then_step before p event) h

run_closed : (first : State) → Closed AnyPass (IsRunOf first)
run_closed first = record {
  claim = λ r p ok h. run_step first r p Claim h;
  finish = λ r p e h. run_step first r p Finish h;
  close = λ r e h. run_step first r frame_pass End h;
  publish = λ r level e h. run_step first r 0 (Publish level) h;
}

any_of : (ps : List ℕ) → All AnyPass ps
any_of ps k d inside = tt

run_line : (first : State) (workers : ℕ) (r : Run) (line : FlyLine) → IsRunOf first r → IsRunOf first (fly_line workers r line)
unfolding settle
run_line first workers r (FlyMove x y a) h = run_step first r 0 (Move x y a) h
run_line first workers r FlyFrame h =
    by_round AnyPass (IsRunOf first) (run_closed first) workers (then_step r frame_pass Begin) (any_of (range_with_len 0 workers)) (run_step first r frame_pass Begin h)
run_line first workers r Settle h =
    by_rounds AnyPass (IsRunOf first) (run_closed first) (cells_to_fill r.state) workers r (any_of (range_with_len 0 workers)) h

run_script : (first : State) (workers : ℕ) (script : List FlyLine) (r : Run) → IsRunOf first r → IsRunOf first (fold (fly_line workers) r script)
run_script first workers [] r h = h
run_script first workers (line ∷ script) r h = run_script first workers script (fly_line workers r line) (run_line first workers r line h)

run_of_none : (first : State) → IsRunOf first (run_from first)
unfolding IsRunOf run
run_of_none first = refl

pub flights_are_runs : FlightsAreRuns
unfolding fly_events flight IsRunOf
flights_are_runs k levels workers script =
    run_script (start_state k levels) workers script (run_from (start_state k levels)) (run_of_none (start_state k levels))

-- ---- legal runs
record IsPlayed (first : State) (r : Run) : Type 0 where
  legal : IsLegalFrom first r.history
  state : r.state ≡ state_after first r.history
  sound : IsSomeSound r.state

taken : (st : State) (p : ℕ) (event : Event) → IsAllowed st p event → IsTaken (length st.levels) event
taken st p (Move x y a) ok = ok
taken st p Claim ok = tt
taken st p Finish ok = tt
taken st p (Publish level) ok = ok
taken st p Begin ok = tt
taken st p End ok = tt

entry_of : State → ℕ → Event → Entry
entry_of st p event = record { pass = p; event = event; answer = (step st p event).answer }

next_legal : (st : State) (p : ℕ) (event : Event) → p < length st.passes → IsAllowed st p event → IsLegalNext st (entry_of st p event)
unfolding entry_of
next_legal st p event there ok = (there, ok, refl)

played : LawsBelow → (first : State) (r : Run) (p : ℕ) (event : Event) → p < length r.state.passes → IsAllowed r.state p event → IsPlayed first r → IsPlayed first (then_step r p event)
unfolding then_step entry_of
played known first r p event there ok h = record {
  legal = (known.legal_more first r.history (entry_of r.state p event)).1 (h.legal, subst (λ (st : State). IsLegalNext st (entry_of r.state p event)) h.state (next_legal r.state p event there ok));
  state = ap (λ (st : State). (step st p event).state) h.state ∙ sym (known.after_more first r.history (entry_of r.state p event));
  sound = sound_after known r.state p event (taken r.state p event ok) h.sound;
}

played_closed : LawsBelow → (first : State) → Closed IsWorker (IsPlayed first)
played_closed known first = record {
  claim = λ r p worker h. played known first r p Claim (passes_there r.state p h.sound (omega arith)) tt h;
  finish = λ r p e h. played known first r p Finish (there_with_job r.state.passes p e) e h;
  close = λ r e h. played known first r frame_pass End (passes_there r.state frame_pass h.sound (omega arith)) tt h;
  publish = λ r level e h. played known first r 0 (Publish level) (passes_there r.state 0 h.sound (omega arith)) (ripe_there known r.state level h.sound e) h;
}

played_line : LawsBelow → (first : State) (workers : ℕ) (r : Run) (line : FlyLine) → workers ≤ 15 → IsFlyable line → IsPlayed first r → IsPlayed first (fly_line workers r line)
unfolding settle
played_line known first workers r (FlyMove x y a) few ok h = played known first r 0 (Move x y a) (passes_there r.state 0 h.sound (omega arith)) ok h
played_line known first workers r FlyFrame few ok h =
    by_round IsWorker (IsPlayed first) (played_closed known first) workers (then_step r frame_pass Begin) (workers_in workers few) (played known first r frame_pass Begin (passes_there r.state frame_pass h.sound (omega arith)) tt h)
played_line known first workers r Settle few ok h =
    by_rounds IsWorker (IsPlayed first) (played_closed known first) (cells_to_fill r.state) workers r (workers_in workers few) h

played_script : LawsBelow → (first : State) (workers : ℕ) (script : List FlyLine) (r : Run) → workers ≤ 15 → All IsFlyable script → IsPlayed first r → IsPlayed first (fold (fly_line workers) r script)
played_script known first workers [] r few lines h = h
played_script known first workers (line ∷ script) r few lines h =
    played_script known first workers script (fly_line workers r line) few (All-tail IsFlyable line script lines) (played_line known first workers r line few (All-head IsFlyable line script lines) h)

played_none : (first : State) → IsSomeSound first → IsPlayed first (run_from first)
unfolding state_after
played_none first s = record { legal = tt; state = refl; sound = s }

pub flights_are_legal : LawsBelow → FlightsAreLegal
unfolding flight
flights_are_legal known k levels workers script h =
    (played_script known (start_state k levels) workers script (run_from (start_state k levels)) h.few h.lines (played_none (start_state k levels) (record { bound = 0; sound = known.sound_starts k levels h.size h.many }))).legal
