-- Rounds until every level in use is whole, and the lines of a flight.
use Rattle.std.proofs.Common.{◌≡◌, ℕ, ◌+◌, ◌-◌, ◌*◌, ◌^◌, ◌<◌, ◌≤◌, Bool, false, true, ℤ, pos, ◌+ℤ◌, ◌-ℤ◌, ◌≤ℤ◌, List, [], ◌∷◌, drop, fold, map, length, get_or, None, is_some, Result, Ok, Err, refl, ap, sym, ◌∙◌, subst, inl, inr, arith}
use Rattle.std.specs.Prelude.{OnOk}
use Rattle.outer_shelf.specs.Outside.{ShelfTold, SinkTold}
use Rattle.plan_model.specs.Limits.{IsLevelCount, IsSize}
use Rattle.plan_model.specs.States.{State, start_state, pass_at, job_of}
use Rattle.plan_model.specs.Steps.{step, begin_step}
use Rattle.plan_model.specs.declared.events.Event.TheVariants.{Begin, Move}
use Rattle.plan_histories.specs.Parts.{OthersKeepParts}
use Rattle.plan_holds.specs.Laws.{StepsGoOn}
use Rattle.book_plan.proofs.Plans.{step_counts}
use Rattle.plan_flights.proofs.Parts.{none_of}
use Rattle.clip_desk.proofs.Jobs.{begin_leaves}
use Rattle.std.proofs.lemmas.Bool.{cases_eq}
use Rattle.plan_model.specs.Histories.{Run, asked_by, run_from}
use Rattle.plan_model.specs.declared.events.Entry.{Entry}
use Rattle.clip_script.specs.declared.step.Step.{Step}
use Rattle.terrain_model.specs.Terrain.{Terrain}
use Rattle.std.proofs.lemmas.List.Elements.{All-nil}
use Rattle.plan_model.specs.Rounds.{frame_pass, round, rounds, is_settled, fly_line, flight, fly_events}
use Rattle.plan_model.specs.declared.events.Event.{Event}
use Rattle.plan_model.specs.declared.events.FlyLine.{FlyLine}
use Rattle.plan_model.specs.declared.events.FlyLine.TheVariants.{Move as FlyMove, Frame as FlyFrame, Settle}
use Rattle.plan_flights.specs.Below.{LawsBelow}
use Rattle.plan_flights.specs.Flights.{FlightsEndAtRest, IsAtRest, IsFlyable}
use Rattle.clip_script.specs.Ranges.{IsFlown}
use Rattle.plan_flights.proofs.Still.{round_rests, unframed_at_rest}
use Rattle.plan_plain.proofs.Flown.{rounds_on, rounds_end, rounds_none}
use Rattle.terrain_store.specs.Shapes.{Land}
use Rattle.run_actions.specs.Actions.{Action}
use Rattle.run_actions.specs.Runs.{Leaving, Ran}
use Rattle.run_actions.specs.declared.halt.Halt.{Halt}
use Rattle.clip_book.specs.Books.{BookView}
use Rattle.clip_desk.specs.Desks.{Goes, Stays}
use Rattle.clip_desk.proofs.Stays.{stays_none, stays_then}
use Rattle.clip_desk.specs.Plays.{play_actions, steps_actions}
use Rattle.clip_flights.specs.Flights.{flight_tally, fly_actions, played}
use Rattle.clip_rounds.specs.Tallies.{no_tally, with_history}
use Rattle.clip_rounds.specs.declared.tally.Tally.{Tally}
use Rattle.clip_rounds.specs.Parts.{Flew, Place, part_actions, place_of, scene_at, step_of}
use Rattle.clip_flights.specs.Lines.{GoesOn, lines_of}
use Rattle.clip_rounds.specs.Rounds.{HaveNoJobs}
use Rattle.clip_rounds.specs.declared.flight.Flight.{Flight}
use Rattle.clip_rounds.proofs.Parts.{round_part}
use Rattle.clip_flights.proofs.LineParts.{line_part, lines_part, rounds_part}
use Rattle.clip_rounds.proofs.Flown.{EndAlike, IsOn, flew_as, flew_over, on_end, on_halt, on_more, on_start}

-- ---- rounds
pub jobless : (book : BookView) → IsAtRest book.plan.state → HaveNoJobs book 0
jobless book rest q far = ap job_of (rest.free q)

-- the rounds from i on are left
pub record IsSettling (leaves : Leaving) (name : List ℕ) (start now : Flight) (workers most i : ℕ) (s0 s : ShelfTold) (k0 k : SinkTold) : Type 0 where
  pub fly : IsOn (Unit {0}) leaves start.book.land.terrain name (rounds most workers) (rounds (most - i) workers) (place_of start) (place_of now) s0 s k0 k
  pub rest : IsAtRest now.book.plan.state
  pub stays : Stays start.book now.book

pub settling_start : (leaves : Leaving) (name : List ℕ) (start : Flight) (workers most : ℕ) (s : ShelfTold) (k : SinkTold) → IsAtRest start.book.plan.state → IsSettling leaves name start start workers most 0 s s k k
settling_start leaves name start workers most s k rest =
    let same : most ≡ most - 0 = omega arith in
    record {
      fly = on_start leaves start.book.land.terrain name _ _ (place_of start) s k (ap (λ (n : ℕ). rounds n workers (run_from start.book.plan.state)) same);
      rest = rest;
      stays = stays_none start.book;
    }

module _ (leaves : Leaving) (name : List ℕ) (start now : Flight) (workers most i : ℕ) (s0 s : ShelfTold) (k0 k : SinkTold) (h : IsSettling leaves name start now workers most i s0 s k0 k) where
  -- every level in use is whole
  pub settling_done : i < most → is_settled now.book.plan.state ≡ true → Flew {A = Unit {0}} leaves start.book.land.terrain name (rounds most workers) (Ok tt) (place_of start) (place_of now) s0 s k0 k
  settling_done there whole = on_end leaves start.book.land.terrain name _ _ (place_of start) (place_of now) s0 s k0 k h.fly tt (rounds_end workers i most (run_from now.book.plan.state) there whole)

  pub settling_end : most ≤ i → Flew {A = Unit {0}} leaves start.book.land.terrain name (rounds most workers) (Ok tt) (place_of start) (place_of now) s0 s k0 k
  settling_end all = on_end leaves start.book.land.terrain name _ _ (place_of start) (place_of now) s0 s k0 k h.fly tt (rounds_none workers i most (run_from now.book.plan.state) all)

  module _ (next : Flight) (s1 : ShelfTold) (k1 : SinkTold) (there : i < most) (open_level : is_settled now.book.plan.state ≡ false) where
    over : {r : Result (Unit {0}) Halt} → Flew leaves now.book.land.terrain name (round workers) r (place_of now) (place_of next) s s1 k k1 → Flew leaves start.book.land.terrain name (round workers) r (place_of now) (place_of next) s s1 k k1
    over {r} f = subst (λ (l : Land). Flew leaves l.terrain name (round workers) r (place_of now) (place_of next) s s1 k k1) h.stays.land f

    pub settling_more : LawsBelow → workers ≤ 15 → Flew {A = Unit {0}} leaves now.book.land.terrain name (round workers) (Ok tt) (place_of now) (place_of next) s s1 k k1 → Stays now.book next.book →
        IsSettling leaves name start next workers most (i + 1) s0 s1 k0 k1
    settling_more known few flew stays = record {
      fly = on_more leaves start.book.land.terrain name _ _ (place_of start) (place_of now) s0 s k0 k h.fly (round workers) (rounds (most - (i + 1)) workers) (round_part workers) (rounds_part (most - (i + 1)) workers)
          (sym (rounds_on workers i most (run_from now.book.plan.state) there open_level)) tt (place_of next) s1 k1 (over flew);
      rest = subst IsAtRest (sym (ap (λ (at : Place). at.state) flew.leads)) (round_rests known workers (run_from now.book.plan.state) few (unframed_at_rest (run_from now.book.plan.state) h.rest));
      stays = stays_then start.book now.book next.book h.stays stays;
    }

    pub settling_halted : (e : Halt) → Flew {A = Unit {0}} leaves now.book.land.terrain name (round workers) (Err e) (place_of now) (place_of next) s s1 k k1 →
        Flew {A = Unit {0}} leaves start.book.land.terrain name (rounds most workers) (Err e) (place_of start) (place_of next) s0 s1 k0 k1
    settling_halted e flew =
        on_halt leaves start.book.land.terrain name _ _ (place_of start) (place_of now) s0 s k0 k h.fly (round workers) (rounds (most - (i + 1)) workers) (round_part workers) (rounds_part (most - (i + 1)) workers)
        (sym (rounds_on workers i most (run_from now.book.plan.state) there open_level)) e (place_of next) (place_of next) s1 k1 (over flew)

-- ---- a frame that begins
-- the pass that draws has no job then, and no other has one
pub begun_jobless : OthersKeepParts → (old new : BookView) → IsAtRest old.plan.state → Goes frame_pass Begin old new → HaveNoJobs new 0
begun_jobless others old new rest goes q far =
    ap (λ (st : State). job_of (pass_at st q)) goes.state
    ∙ elim (cases_eq q frame_pass) [
      | inl e ↦ subst (λ (n : ℕ). job_of (pass_at (begin_step old.plan.state frame_pass).state n) ≡ None) (sym e) (here (is_some (job_of (pass_at (begin_step old.plan.state frame_pass).state frame_pass))) refl)
      | inr apart ↦ ap job_of (others old.plan.state frame_pass q Begin (λ e. apart (sym e)) ∙ rest.free q)
    ]
  where
    here : (b : Bool) → b ≡ is_some (job_of (pass_at (begin_step old.plan.state frame_pass).state frame_pass)) → job_of (pass_at (begin_step old.plan.state frame_pass).state frame_pass) ≡ None
    here false e = none_of (job_of (pass_at (begin_step old.plan.state frame_pass).state frame_pass)) (sym e)
    here true e = ap job_of (begin_leaves old.plan.state frame_pass (sym e) ∙ rest.free frame_pass)

pub begun_many : StepsGoOn → (old new : BookView) → IsAtRest old.plan.state → Goes frame_pass Begin old new → length new.plan.state.passes ≡ 16
begun_many go_on old new rest goes = ap (λ (st : State). length st.passes) goes.state ∙ (go_on old.plan.state frame_pass Begin).passes ∙ rest.sound.passes

pub begun_goes_on : (old mid new : BookView) → Goes frame_pass Begin old mid → Stays mid new → GoesOn old new
begun_goes_on old mid new goes stays =
    let begun : mid.plan.state.begun ≡ (step old.plan.state frame_pass Begin).state.begun = ap (λ (st : State). st.begun) goes.state in
    record {
      land = stays.land ∙ goes.land;
      moves = omega (arith, stays.moves, goes.moves);
      begun = omega (arith, stays.begun, begun, step_counts old.plan.state frame_pass Begin);
    }

pub moved_goes_on : (x y : ℤ) (a : ℕ) (old new : BookView) → Goes 0 (Move x y a) old new → GoesOn old new
moved_goes_on x y a old new goes =
    let begun : new.plan.state.begun ≡ (step old.plan.state 0 (Move x y a)).state.begun = ap (λ (st : State). st.begun) goes.state in
    record {
      land = goes.land;
      moves = omega (arith, goes.moves);
      begun = omega (arith, begun, step_counts old.plan.state 0 (Move x y a));
    }

-- ---- lines
pub stays_goes_on : (old new : BookView) → Stays old new → GoesOn old new
stays_goes_on old new stays = record { land = stays.land; moves = omega (arith, stays.moves); begun = omega (arith, stays.begun) }

-- a flight whose lines below i were done
pub record IsFlying (leaves : Leaving) (name : List ℕ) (start now : Flight) (workers : ℕ) (lines : List FlyLine) (i : ℕ) (s0 s : ShelfTold) (k0 k : SinkTold) : Type 0 where
  pub fly : IsOn (Unit {0}) leaves start.book.land.terrain name (lines_of workers lines) (lines_of workers (drop i lines)) (place_of start) (place_of now) s0 s k0 k
  pub rest : IsAtRest now.book.plan.state
  pub land : now.book.land ≡ start.book.land
  pub moves : now.book.plan.moves ≤ i
  pub begun : now.book.plan.state.begun ≤ i

pub flying_start : (leaves : Leaving) (name : List ℕ) (start : Flight) (workers : ℕ) (lines : List FlyLine) (s : ShelfTold) (k : SinkTold) → IsAtRest start.book.plan.state → start.book.plan.moves ≡ 0 →
    start.book.plan.state.begun ≡ 0 → IsFlying leaves name start start workers lines 0 s s k k
flying_start leaves name start workers lines s k rest moves begun = record {
  fly = on_start leaves start.book.land.terrain name _ _ (place_of start) s k refl;
  rest = rest;
  land = refl;
  moves = omega (arith, moves);
  begun = omega (arith, begun);
}

module _ (leaves : Leaving) (name : List ℕ) (start now : Flight) (workers : ℕ) (lines : List FlyLine) (i : ℕ) (s0 s : ShelfTold) (k0 k : SinkTold) (h : IsFlying leaves name start now workers lines i s0 s k0 k) where
  pub flying_end : drop i lines ≡ [] → Flew {A = Unit {0}} leaves start.book.land.terrain name (lines_of workers lines) (Ok tt) (place_of start) (place_of now) s0 s k0 k
  flying_end none = on_end leaves start.book.land.terrain name _ _ (place_of start) (place_of now) s0 s k0 k h.fly tt (ap (fold (fly_line workers) (run_from now.book.plan.state)) none)

  module _ (next : Flight) (line : FlyLine) (s1 : ShelfTold) (k1 : SinkTold) (here : drop i lines ≡ line ∷ drop (i + 1) lines) where
    over_line : {r : Result (Unit {0}) Halt} → Flew leaves now.book.land.terrain name (λ run. fly_line workers run line) r (place_of now) (place_of next) s s1 k k1 →
        Flew leaves start.book.land.terrain name (λ run. fly_line workers run line) r (place_of now) (place_of next) s s1 k k1
    over_line {r} f = subst (λ (l : Land). Flew leaves l.terrain name (λ run. fly_line workers run line) r (place_of now) (place_of next) s s1 k k1) h.land f

    pub flying_more : Flew {A = Unit {0}} leaves now.book.land.terrain name (λ run. fly_line workers run line) (Ok tt) (place_of now) (place_of next) s s1 k k1 →
        IsAtRest (fly_line workers (run_from now.book.plan.state) line).state → GoesOn now.book next.book → IsFlying leaves name start next workers lines (i + 1) s0 s1 k0 k1
    flying_more flew rest goes = record {
      fly = on_more leaves start.book.land.terrain name _ _ (place_of start) (place_of now) s0 s k0 k h.fly (λ run. fly_line workers run line) (lines_of workers (drop (i + 1) lines)) (line_part workers line) (lines_part workers (drop (i + 1) lines))
          (ap (fold (fly_line workers) (run_from now.book.plan.state)) here) tt (place_of next) s1 k1 (over_line flew);
      rest = subst IsAtRest (sym (ap (λ (at : Place). at.state) flew.leads)) rest;
      land = goes.land ∙ h.land;
      moves = omega (arith, goes.moves, h.moves);
      begun = omega (arith, goes.begun, h.begun);
    }

    pub flying_halted : (e : Halt) → Flew {A = Unit {0}} leaves now.book.land.terrain name (λ run. fly_line workers run line) (Err e) (place_of now) (place_of next) s s1 k k1 →
        Flew {A = Unit {0}} leaves start.book.land.terrain name (lines_of workers lines) (Err e) (place_of start) (place_of next) s0 s1 k0 k1
    flying_halted e flew =
        on_halt leaves start.book.land.terrain name _ _ (place_of start) (place_of now) s0 s k0 k h.fly (λ run. fly_line workers run line) (lines_of workers (drop (i + 1) lines)) (line_part workers line) (lines_part workers (drop (i + 1) lines))
        (ap (fold (fly_line workers) (run_from now.book.plan.state)) here) e (place_of next) (place_of next) s1 k1 (over_line flew)

-- ---- a flight from its start
pub flyable : (line : FlyLine) → IsFlown line → IsFlyable line
flyable (FlyMove x y a) h = h
flyable FlyFrame h = tt
flyable Settle h = tt

pub start_rests : FlightsEndAtRest → (k levels : ℕ) → IsSize k → IsLevelCount levels → IsAtRest (start_state k levels)
unfolding flight
start_rests law k levels size many = law k levels 0 [] (record { size = size; many = many; few = omega arith; lines = All-nil IsFlyable })

played_steps : (entries : List Entry) → map played (map asked_by entries) ≡ map step_of entries
played_steps [] = refl
played_steps (e ∷ entries) = ap (λ (rest : List Step). step_of e ∷ rest) (played_steps entries)

-- what all lines do is what a play of the flight's events does
pub flown_actions : (terrain : Terrain) (name : List ℕ) (k levels workers : ℕ) (lines : List FlyLine) →
    part_actions terrain name (start_state k levels) (lines_of workers lines) ≡ fly_actions terrain k levels workers lines name
unfolding fly_actions play_actions fly_events flight
flown_actions terrain name k levels workers lines =
    ap (steps_actions terrain name (scene_at (start_state k levels))) (sym (played_steps (fold (fly_line workers) (run_from (start_state k levels)) lines).history))

pub flown_tally : (terrain : Terrain) (k levels workers : ℕ) (lines : List FlyLine) (tally : Tally) →
    tally ≡ with_history terrain (start_state k levels) (lines_of workers lines (run_from (start_state k levels))).history no_tally → tally ≡ flight_tally terrain k levels workers lines
unfolding flight_tally flight
flown_tally terrain k levels workers lines tally is = is

-- a flight that was flown from its start, over a terrain that is the same, with a result that ends alike
abbrev pub first_place : ℕ → ℕ → Place
first_place k levels = record { state = start_state k levels; tally = no_tally }

pub flown_start : {A : Type 0} (leaves : Leaving) (l l' : Land) (name : List ℕ) (k levels workers : ℕ) (lines : List FlyLine) (start now : Place) (r : Result (Unit {0}) Halt) (q : Result A Halt)
    (s s' : ShelfTold) (k0 k1 : SinkTold) → l' ≡ l → start ≡ first_place k levels → EndAlike r q → Flew leaves l'.terrain name (lines_of workers lines) r start now s s' k0 k1 →
    Flew leaves l.terrain name (lines_of workers lines) q (first_place k levels) now s s' k0 k1
flown_start leaves l l' name k levels workers lines start now r q s s' k0 k1 land is alike f =
    flew_as leaves l.terrain name (lines_of workers lines) r q (first_place k levels) now s s' k0 k1 alike
    (flew_over leaves l' l name (lines_of workers lines) r (first_place k levels) now s s' k0 k1 land
    (subst (λ (from : Place). Flew leaves l'.terrain name (lines_of workers lines) r from now s s' k0 k1) is f))

pub started_ran : {A : Type 0} (leaves : Leaving) (terrain : Terrain) (name : List ℕ) (k levels workers : ℕ) (lines : List FlyLine) (now : Place) (q : Result A Halt) (s s' : ShelfTold) (k0 k1 : SinkTold) →
    Flew leaves terrain name (lines_of workers lines) q (first_place k levels) now s s' k0 k1 → Ran leaves 0 (fly_actions terrain k levels workers lines name) q s s' k0 k1
started_ran leaves terrain name k levels workers lines now q s s' k0 k1 f = subst (λ (actions : List Action). Ran leaves 0 actions q s s' k0 k1) (flown_actions terrain name k levels workers lines) f.ran

pub started_tally : {A : Type 0} (leaves : Leaving) (terrain : Terrain) (name : List ℕ) (k levels workers : ℕ) (lines : List FlyLine) (now : Place) (x : A) (s s' : ShelfTold) (k0 k1 : SinkTold) →
    Flew leaves terrain name (lines_of workers lines) (Ok x) (first_place k levels) now s s' k0 k1 → now.tally ≡ flight_tally terrain k levels workers lines
started_tally leaves terrain name k levels workers lines now x s s' k0 k1 f = flown_tally terrain k levels workers lines now.tally (ap (λ (at : Place). at.tally) f.leads)
