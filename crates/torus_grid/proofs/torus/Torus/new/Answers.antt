use Rattle.std.proofs.Common.{◌≡◌, ℕ, ◌*◌, ℤ, pos, List, replicate, Option, Some, ap, ◌∙◌}
use mathlib.Core.Path.{ap₂}
use Rattle.plan_model.specs.Blocks.{tiles_per_side}
use Rattle.torus_grid.specs.Grids.{Grid, new_grid}
use Rattle.torus_grid.proofs.torus.Torus.new.Goals as goal

abbrev grid : ℕ → List (Option (List ℤ)) → Grid
grid k tiles = record { k = k; tiles = tiles }

pub returns-in-Ok : goal.returns-in-Ok
unfolding new_grid
returns-in-Ok c =
    let side : c.from-side.result ≡ tiles_per_side c.args.k = c.from-side.ensures ∙ c.tiles_per_side.ensures.value in
    ap (grid c.args.k) (c.in-Ok.ensures ∙ ap₂ (λ (n m : ℕ). replicate (n * m) (Some (replicate 64 (pos 0)))) side side)
