-- The command `demo`.
use Rattle.std.specs.Prelude.{◌≡◌, ℕ, List, Ok}
use Rattle.outer_shelf.specs.Outside.{Files}
use Rattle.demo_flight.specs.Demo.{demo_lines, demo_terrain}
use Rattle.terrain_store.specs.Shapes.{Land}
use Rattle.clip_script.specs.Scripts.{Fly}
use Rattle.clip_flights.specs.Flights.{demo_actions}
use Rattle.clipmap_words.specs.Demo.{DemoView}
use Rattle.run_actions.specs.Actions.{Action}
use Rattle.clipmap_prog.specs.Outcome.{Outcome, concluded}
use Rattle.clipmap_prog.specs.Reading.{unfetched}

-- what the flight of a seed does over the terrain of that seed: K = 6, and six levels
abbrev pub seed_actions : ℕ → List Action
seed_actions seed = demo_actions (demo_terrain seed) 6 6 (demo_lines seed) seed

-- a script is the flight of a seed, and a terrain with its levels is the one of that seed
pub record IsFlightOf (seed : ℕ) (script : Fly) (land : Land) : Type 0 where
  pub size : script.k ≡ 6
  pub levels : script.levels ≡ 6
  pub lines : script.lines ≡ demo_lines seed
  pub terrain : land.terrain ≡ demo_terrain seed
  pub many : land.levels ≡ 6

-- what a `demo` does. No file is fetched
abbrev pub demo_outcome : DemoView → Files → Outcome
demo_outcome demo files = concluded seed_actions (unfetched (Ok demo.seed))
