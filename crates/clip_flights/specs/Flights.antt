-- What a flight and the demo do over a terrain.
use Rattle.std.specs.Prelude.{ℕ, List, [], ◌∷◌, ◌++◌, codes, decimal, map}
use Rattle.terrain_model.specs.Terrain.{Terrain}
use Rattle.plan_model.specs.States.{start_state}
use Rattle.plan_model.specs.Histories.{Asked}
use Rattle.plan_model.specs.Rounds.{flight, fly_events}
use Rattle.plan_model.specs.declared.events.FlyLine.{FlyLine}
use Rattle.clip_script.specs.declared.step.Step.{Step}
use Rattle.clip_script.specs.declared.step.Step.TheVariants.{Book}
use Rattle.run_actions.specs.Actions.{Action, Write}
use Rattle.clip_desk.specs.Plays.{play_actions}
use Rattle.clip_rounds.specs.Tallies.{no_tally, with_history}
use Rattle.clip_rounds.specs.declared.tally.Tally.{Tally}

-- an event as the step of a play
abbrev pub played : Asked → Step
played asked = Book asked.pass asked.event

-- what a flight does with so many workers: what a play of its events does
unfoldable pub fly_actions : Terrain → ℕ → ℕ → ℕ → List FlyLine → List ℕ → List Action
fly_actions terrain k levels workers lines name =
    play_actions terrain k levels (map played (fly_events k levels workers lines)) name

-- the numbers of a flight
unfoldable pub flight_tally : Terrain → ℕ → ℕ → ℕ → List FlyLine → Tally
flight_tally terrain k levels workers lines =
    with_history terrain (start_state k levels) (flight k levels workers lines).history no_tally

-- `demo SEED frames F vertices V triangles T`
unfoldable pub frames_text : ℕ → ℕ → ℕ → ℕ → List ℕ
frames_text seed frames vertices triangles =
    codes "demo " ++ (decimal seed ++ (codes " frames " ++ (decimal frames
    ++ (codes " vertices " ++ (decimal vertices ++ (codes " triangles " ++ decimal triangles))))))

-- `demo SEED frames F vertices V triangles T pieces P bytes B`
unfoldable pub demo_line : ℕ → Tally → List ℕ
demo_line seed tally =
    frames_text seed tally.frames tally.vertices tally.triangles
    ++ (codes " pieces " ++ (decimal tally.pieces ++ (codes " bytes " ++ (decimal tally.bytes ++ codes "\n"))))

-- what the demo does: the line of the numbers of a flight with two workers
abbrev pub demo_actions : Terrain → ℕ → ℕ → List FlyLine → ℕ → List Action
demo_actions terrain k levels lines seed = Write (demo_line seed (flight_tally terrain k levels 2 lines)) ∷ []
