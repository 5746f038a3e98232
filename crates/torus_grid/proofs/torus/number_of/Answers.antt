use Rattle.std.proofs.Common.{◌≡◌, ℕ, ◌*◌, ◌∙◌, arith}
use mathlib.Core.Path.{ap₂}
use Rattle.plan_model.specs.Blocks.{tiles_per_side}
use Rattle.torus_grid.specs.Grids.{tile_number}
use Rattle.torus_grid.proofs.torus.number_of.Goals as goal

pub returns-clause-value : goal.returns-clause-value
unfolding tile_number
returns-clause-value c =
    let product : c.from.result * c.from-2.result ≡ tiles_per_side c.args.k * c.args.tile.ty = ap₂ (λ (a b : ℕ). a * b) (c.from.ensures ∙ c.tiles_per_side.ensures.value) c.from-2.ensures in
    omega (arith, product, c.from-3.ensures)
