use Rattle.std.proofs.Common.{◌∙◌}
use mathlib.Core.Path.{ap₂}
use Rattle.terrain_model.specs.Terrain.{Terrain, level_height}
use Rattle.std.proofs.Common.{ℕ}
use Rattle.store_writer.proofs.Steps.{coarsest_restored}
use Rattle.store_writer.proofs.coarser.coarsest.Goals as goal

pub returns : goal.returns
returns c = λ i j.
    ap₂ (λ (t : Terrain) (l : ℕ). level_height t l i j) c.new.ensures.grid c.new.ensures.level
    ∙ coarsest_restored c.args.grid.now c.args.levels c.args.step i j c.requires.some
