use Rattle.std.proofs.Common.{ℤ, ap, ◌∙◌}
use Rattle.clip_regions.specs.FloorDivision.{floor_rem}
use Rattle.plan_model.specs.Blocks.{tiles_per_side}
use Rattle.plan_plain_pieces.proofs.Shapes.{tile_is}
use Rattle.plan_plain_pieces.proofs.blocks.tile_of.Goals as goal
use Rattle.clip_regions.proofs.Numbers.{read_back}

pub returns : goal.returns
returns c = record {
  value = tile_is c.args.k c.tile_place-tx.result c.tile_place-ty.result c.args.bx c.args.by (c.tile_place-tx.ensures.value ∙ ap (λ (b : ℤ). floor_rem b (tiles_per_side c.args.k)) (read_back c.args.bx c.ranges.bx)) (c.tile_place-ty.ensures.value ∙ ap (λ (b : ℤ). floor_rem b (tiles_per_side c.args.k)) (read_back c.args.by c.ranges.by));
}
