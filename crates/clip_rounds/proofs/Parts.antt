-- Parts of a flight carry what was before them, and their histories lead to their states.
use Rattle.std.proofs.Common.{◌≡◌, ℕ, Bool, true, false, cond, List, [], ◌∷◌, ◌++◌, map, length, append_assoc, append-nil, refl, ap, sym, ◌∙◌}
use Rattle.std.proofs.lemmas.List.Sums.{fold-append}
use Rattle.std.specs.List.{fold, range_with_len}
use Rattle.std.specs.Option.{is_some}
use mathlib.Core.Path.{ap₂}
use Rattle.terrain_model.specs.Terrain.{Terrain}
use Rattle.plan_model.specs.States.{State, pass_at, job_of, frame_of, from_coarsest}
use Rattle.plan_model.specs.Steps.{step}
use Rattle.plan_model.specs.Histories.{Run, run_from, then_step, state_after}
use Rattle.plan_model.specs.Rounds.{frame_pass, is_job, claims, finish_of, finishes, ending, is_ripe, publish_of, publishes, round}
use Rattle.plan_model.specs.declared.events.Entry.{Entry}
use Rattle.plan_model.specs.declared.events.Event.{Event}
use Rattle.plan_model.specs.declared.events.Event.TheVariants.{Claim, Finish, Publish, End}
use Rattle.run_actions.specs.Actions.{Action}
use Rattle.clip_desk.specs.Plays.{event_actions, steps_actions}
use Rattle.clip_rounds.specs.Tallies.{with_event, with_history}
use Rattle.clip_rounds.specs.Parts.{Part, Place, after_part, one, part_actions, scene_at, step_of}
use Rattle.clip_rounds.specs.declared.tally.Tally.{Tally}

-- a run behind another
abbrev pub behind : Run → Run → Run
behind before after = record { state = after.state; history = before.history ++ after.history }

-- a part sees of the run before it the state alone, and its history leads to its state
pub record IsPart (part : Part) : Type 0 where
  pub carries : (before after : Run) → part (behind before after) ≡ behind before (part after)
  pub follows : (first : State) (r : Run) → state_after first r.history ≡ r.state → state_after first (part r).history ≡ (part r).state

-- ---- what are parts
abbrev run_of : State → List Entry → Run
run_of st history = record { state = st; history = history }

pub one_part : (p : ℕ) (event : Event) → IsPart (one p event)
unfolding then_step state_after
one_part p event = record {
  carries = λ before after. ap (run_of (step after.state p event).state) (append_assoc before.history after.history (record { pass = p; event = event; answer = (step after.state p event).answer } ∷ []));
  follows = λ first r led.
      fold-append (λ (st : State) (e : Entry). (step st e.pass e.event).state) first r.history (record { pass = p; event = event; answer = (step r.state p event).answer } ∷ [])
      ∙ ap (λ (st : State). (step st p event).state) led;
}

pub none_part : IsPart (λ run. run)
none_part = record { carries = λ before after. refl; follows = λ first r led. led }

pub then_part : (f g : Part) → IsPart f → IsPart g → IsPart (λ run. g (f run))
then_part f g a b = record {
  carries = λ before after. ap g (a.carries before after) ∙ b.carries before (f after);
  follows = λ first r led. b.follows first (f r) (a.follows first r led);
}

-- a part that the state chooses
pub chosen_part : (choose : State → Part) → ((st : State) → IsPart (choose st)) → IsPart (λ run. choose run.state run)
chosen_part choose are = record {
  carries = λ before after. (are after.state).carries before after;
  follows = λ first r led. (are r.state).follows first r led;
}

either_part : (b : Bool) (f g : Part) → IsPart f → IsPart g → IsPart (λ run. cond b (f run) (g run))
either_part true f g a c = a
either_part false f g a c = c

pub tested_part : (test : State → Bool) (f g : Part) → IsPart f → IsPart g → IsPart (λ run. cond (test run.state) (f run) (g run))
tested_part test f g a c = chosen_part (λ st run. cond (test st) (f run) (g run)) (λ st. either_part (test st) f g a c)

pub fold_part : {X : Type 0} (f : Run → X → Run) → ((x : X) → IsPart (λ run. f run x)) → (xs : List X) → IsPart (λ run. fold f run xs)
fold_part f are [] = none_part
fold_part f are (x ∷ xs) = then_part (λ run. f run x) (λ run. fold f run xs) (are x) (fold_part f are xs)

pub claims_part : (ps : List ℕ) → IsPart (λ run. claims run ps)
claims_part [] = none_part
claims_part (p ∷ ps) =
    tested_part (λ st. is_job (step st p Claim).answer) (λ run. claims (then_step run p Claim) ps) (one p Claim)
    (then_part (one p Claim) (λ run. claims run ps) (one_part p Claim) (claims_part ps)) (one_part p Claim)

pub finish_part : (p : ℕ) → IsPart (λ run. finish_of run p)
unfolding finish_of
finish_part p = tested_part (λ st. is_some (job_of (pass_at st p))) (one p Finish) (λ run. run) (one_part p Finish) none_part

pub finishes_part : IsPart finishes
unfolding finishes
finishes_part = chosen_part (λ st run. fold finish_of run (range_with_len 0 (length st.passes))) (λ st. fold_part finish_of finish_part (range_with_len 0 (length st.passes)))

pub ending_part : IsPart ending
unfolding ending
ending_part = tested_part (λ st. is_some (frame_of (pass_at st frame_pass))) (one frame_pass End) (λ run. run) (one_part frame_pass End) none_part

pub publish_part : (level : ℕ) → IsPart (λ run. publish_of run level)
unfolding publish_of
publish_part level = tested_part (λ st. is_ripe st level) (one 0 (Publish level)) (λ run. run) (one_part 0 (Publish level)) none_part

pub publishes_part : IsPart publishes
unfolding publishes
publishes_part = chosen_part (λ st run. fold publish_of run (from_coarsest st)) (λ st. fold_part publish_of publish_part (from_coarsest st))

pub home_part : IsPart (λ run. publishes (ending (finishes run)))
home_part = then_part finishes (λ run. publishes (ending run)) finishes_part (then_part ending publishes ending_part publishes_part)

pub round_part : (workers : ℕ) → IsPart (round workers)
unfolding round
round_part workers =
    then_part (λ run. claims run (range_with_len 0 workers)) (λ run. publishes (ending (finishes run))) (claims_part (range_with_len 0 workers)) home_part

-- ---- two parts, one after the other
whole_run : (r : Run) → r ≡ behind r (run_from r.state)
whole_run r = ap (run_of r.state) (sym (append-nil r.history))

module _ (first second : Part) (a : IsPart first) (b : IsPart second) (st : State) where
  second_behind : second (first (run_from st)) ≡ behind (first (run_from st)) (second (run_from (first (run_from st)).state))
  second_behind = ap second (whole_run (first (run_from st))) ∙ b.carries (first (run_from st)) (run_from (first (run_from st)).state)

  first_leads : state_after st (first (run_from st)).history ≡ (first (run_from st)).state
  unfolding state_after
  first_leads = a.follows st (run_from st) refl

module _ (terrain : Terrain) (name : List ℕ) where
  steps_then : (st : State) (xs ys : List Entry) → steps_actions terrain name (scene_at st) (map step_of (xs ++ ys))
      ≡ steps_actions terrain name (scene_at st) (map step_of xs) ++ steps_actions terrain name (scene_at (state_after st xs)) (map step_of ys)
  unfolding state_after
  steps_then st [] ys = refl
  steps_then st (x ∷ xs) ys =
      ap (λ (rest : List Action). event_actions terrain name st x.pass x.event ++ rest) (steps_then (step st x.pass x.event).state xs ys)
      ∙ sym (append_assoc (event_actions terrain name st x.pass x.event) (steps_actions terrain name (scene_at (step st x.pass x.event).state) (map step_of xs)) (steps_actions terrain name (scene_at (state_after (step st x.pass x.event).state xs)) (map step_of ys)))

  -- the actions of two parts are those of one behind those of the other
  pub actions_then : (first second whole : Part) → IsPart first → IsPart second → (st : State) → whole (run_from st) ≡ second (first (run_from st)) →
      part_actions terrain name st whole ≡ part_actions terrain name st first ++ part_actions terrain name (first (run_from st)).state second
  actions_then first second whole a b st is =
      let mid : State = (first (run_from st)).state in
      let rest : List Entry = (second (run_from mid)).history in
      ap (λ (r : Run). steps_actions terrain name (scene_at st) (map step_of r.history)) (is ∙ second_behind first second a b st)
      ∙ steps_then st (first (run_from st)).history rest
      ∙ ap (λ (s : State). part_actions terrain name st first ++ steps_actions terrain name (scene_at s) (map step_of rest)) (first_leads first second a b st)

history_then : (terrain : Terrain) (st : State) (xs ys : List Entry) (tally : Tally) →
    with_history terrain st (xs ++ ys) tally ≡ with_history terrain (state_after st xs) ys (with_history terrain st xs tally)
unfolding state_after
history_then terrain st [] ys tally = refl
history_then terrain st (x ∷ xs) ys tally = history_then terrain (step st x.pass x.event).state xs ys (with_event terrain st x.pass x.event tally)

abbrev place_at : State → Tally → Place
place_at st tally = record { state = st; tally = tally }

-- and where the second leads from where the first led
pub leads_then : (terrain : Terrain) (first second whole : Part) → IsPart first → IsPart second → (place : Place) → whole (run_from place.state) ≡ second (first (run_from place.state)) →
    after_part terrain whole place ≡ after_part terrain second (after_part terrain first place)
leads_then terrain first second whole a b place is =
    let st : State = place.state in
    let mid : State = (first (run_from st)).state in
    let done : List Entry = (first (run_from st)).history in
    let rest : List Entry = (second (run_from mid)).history in
    let both : whole (run_from st) ≡ behind (first (run_from st)) (second (run_from mid)) = is ∙ second_behind first second a b st in
    ap₂ place_at (ap (λ (r : Run). r.state) both)
    (ap (λ (r : Run). with_history terrain st r.history place.tally) both ∙ history_then terrain st done rest place.tally
    ∙ ap (λ (s : State). with_history terrain s rest (with_history terrain st done place.tally)) (first_leads first second a b st))
