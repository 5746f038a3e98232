-- That a play of a history puts the frames that the history closes.
use Rattle.std.proofs.Common.{◌≡◌, ℕ, List, [], ◌∷◌, ◌++◌, map, Option, Some, None, refl, sym, ap, ◌∙◌, subst}
use mathlib.Core.Path.{ap₂}
use Rattle.std.proofs.lemmas.List.{map-append}
use Rattle.terrain_model.specs.Terrain.{Terrain}
use Rattle.plan_model.specs.States.{State, OpenFrame, start_state, pass_at, frame_of}
use Rattle.plan_model.specs.Steps.{step}
use Rattle.plan_model.specs.declared.events.Event.{Event}
use Rattle.plan_model.specs.declared.events.Event.TheVariants.{Move, Claim, Finish, Publish, Begin, End}
use Rattle.plan_model.specs.declared.events.Entry.{Entry}
use Rattle.plan_holds.specs.Laws.{StepsGoOn}
use Rattle.swarm_laws.specs.Closings.{closings, closings_in, closed_by, one_closing}
use Rattle.clip_script.specs.Texts.{read_pass}
use Rattle.run_actions.specs.Actions.{Action, Put, Write}
use Rattle.clip_desk.specs.Plays.{Scene, end_actions, event_actions, steps_actions, play_actions}
use Rattle.swarm_plays.specs.Journals.{steps_of}
use Rattle.swarm_plays.specs.Puts.{puts_in, closing_put}

puts_append : (xs ys : List Action) → puts_in (xs ++ ys) ≡ puts_in xs ++ puts_in ys
puts_append [] ys = refl
puts_append (Put name bytes ∷ xs) ys = ap (λ (more : List Action). Put name bytes ∷ more) (puts_append xs ys)
puts_append (Write piece ∷ xs) ys = puts_append xs ys

-- the pass of a move or a publication decides nothing
same_step : (st : State) (p : ℕ) (event : Event) → (step st (read_pass p event) event).state ≡ (step st p event).state
same_step st p (Move x y a) = refl
same_step st p Claim = refl
same_step st p Finish = refl
same_step st p (Publish level) = refl
same_step st p Begin = refl
same_step st p End = refl

module _ (terrain : Terrain) (name : List ℕ) where
  end_puts : (k p : ℕ) (frame : Option OpenFrame) → puts_in (end_actions terrain name k p frame) ≡ map (closing_put terrain k name) (one_closing p frame)
  end_puts k p None = refl
  end_puts k p (Some frame) = refl

  event_puts : (st : State) (p : ℕ) (event : Event) → puts_in (event_actions terrain name st (read_pass p event) event) ≡ map (closing_put terrain st.k name) (closed_by event p (frame_of (pass_at st p)))
  event_puts st p (Move x y a) = refl
  event_puts st p Claim = refl
  event_puts st p Finish = refl
  event_puts st p (Publish level) = refl
  event_puts st p Begin = refl
  event_puts st p End = end_puts st.k p (frame_of (pass_at st p))

  abbrev scene_at : State → Scene
  scene_at st = record { state = st; view = [] }

  steps_puts : StepsGoOn → (st : State) (k : ℕ) (log : List Entry) → st.k ≡ k → puts_in (steps_actions terrain name (scene_at st) (steps_of log)) ≡ map (closing_put terrain k name) (closings st log)
  steps_puts go_on st k [] size = refl
  steps_puts go_on st k (e ∷ rest) size =
      let p = read_pass e.pass e.event in
      let next : State = (step st e.pass e.event).state in
      let here : puts_in (event_actions terrain name st p e.event) ≡ map (closing_put terrain k name) (closed_by e.event e.pass (frame_of (pass_at st e.pass))) =
      subst (λ n. puts_in (event_actions terrain name st p e.event) ≡ map (closing_put terrain n name) (closed_by e.event e.pass (frame_of (pass_at st e.pass)))) size (event_puts st e.pass e.event) in
      let later : puts_in (steps_actions terrain name (scene_at (step st p e.event).state) (steps_of rest)) ≡ map (closing_put terrain k name) (closings next rest) =
      ap (λ (s : State). puts_in (steps_actions terrain name (scene_at s) (steps_of rest))) (same_step st e.pass e.event) ∙ steps_puts go_on next k rest ((go_on st e.pass e.event).size ∙ size) in
      puts_append (event_actions terrain name st p e.event) (steps_actions terrain name (scene_at (step st p e.event).state) (steps_of rest))
      ∙ ap₂ (λ (a b : List Action). a ++ b) here later
      ∙ sym (map-append (closing_put terrain k name) (closed_by e.event e.pass (frame_of (pass_at st e.pass))) (closings next rest))

pub plays_put : StepsGoOn → (terrain : Terrain) (k levels : ℕ) (name : List ℕ) (log : List Entry) →
    puts_in (play_actions terrain k levels (steps_of log) name) ≡ map (closing_put terrain k name) (closings_in k levels log)
unfolding play_actions start_state
plays_put go_on terrain k levels name log = steps_puts terrain name go_on (start_state k levels) k log refl
