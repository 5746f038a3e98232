-- The demo's flight as a course.
use Rattle.std.proofs.Common.{◌≡◌, ℕ, List, All, length, refl, ap, sym, ◌∙◌, arith}
use Rattle.terrain_model.specs.Terrain.{Terrain}
use Rattle.terrain_store.specs.Shapes.{Land}
use Rattle.plan_model.specs.declared.events.FlyLine.{FlyLine}
use Rattle.clip_script.specs.Ranges.{IsFlown}
use Rattle.clip_script.specs.Scripts.{Fly}
use Rattle.clip_flights.specs.Flights.{demo_actions}
use Rattle.clip_runs.specs.Courses.{IsFlyInRange}
use Rattle.demo_flight.specs.Demo.{demo_lines, demo_terrain, leg, leg_to, lines_after}
use Rattle.clipmap_prog.specs.Demo.{IsFlightOf, seed_actions}

few_lines : (seed : ℕ) → length (demo_lines seed) ≡ 195
unfolding demo_lines lines_after leg leg_to
few_lines seed = refl

module _ (seed : ℕ) (script : Fly) (land : Land) (is : IsFlightOf seed script land) where
  pub seed_is : demo_actions land.terrain script.k script.levels script.lines seed ≡ seed_actions seed
  seed_is =
      ap (λ (terrain : Terrain). demo_actions terrain script.k script.levels script.lines seed) is.terrain ∙
      ap (λ (k : ℕ). demo_actions (demo_terrain seed) k script.levels script.lines seed) is.size ∙
      ap (λ (levels : ℕ). demo_actions (demo_terrain seed) 6 levels script.lines seed) is.levels ∙
      ap (λ (lines : List FlyLine). demo_actions (demo_terrain seed) 6 6 lines seed) is.lines

  pub seed_in_range : All IsFlown script.lines → IsFlyInRange land.levels script
  seed_in_range flown = record {
    sizes = record {
      size = record { low = omega (arith, is.size); high = omega (arith, is.size) };
      many = record { low = omega (arith, is.levels); high = omega (arith, is.levels) };
    };
    lines = flown;
    few = omega (arith, ap length is.lines ∙ few_lines seed);
    same_levels = is.levels ∙ sym is.many;
  }
