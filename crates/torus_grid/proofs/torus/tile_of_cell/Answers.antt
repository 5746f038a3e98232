use Rattle.std.proofs.Common.{◌≤◌, ℤ, ap, sym, ◌∙◌, arith}
use mathlib.Core.Path.{ap₂}
use Rattle.clip_regions.specs.FloorDivision.{floor_div}
use Rattle.plan_model.specs.Blocks.{tile_of}
use Rattle.torus_grid.proofs.torus.tile_of_cell.Goals as goal
use Rattle.clip_regions.proofs.Numbers.{read_back}

pub returns : goal.returns
returns c =
    let size : 3 ≤ c.args.k = omega arith in
    c.tile_of.ensures.value ∙ ap₂ (tile_of c.args.k) (read_back c.eighth.result (record { sfits = c.eighth.type_inv }) ∙ c.eighth.ensures ∙ ap (λ (v : ℤ). floor_div v 8) (read_back c.args.i c.ranges.i)) (read_back c.eighth-2.result (record { sfits = c.eighth-2.type_inv }) ∙ c.eighth-2.ensures ∙ ap (λ (v : ℤ). floor_div v 8) (read_back c.args.j c.ranges.j)) ∙ sym (c.blocks_have_one_tile.ensures c.args.k c.args.i c.args.j size)
