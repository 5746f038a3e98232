use Rattle.std.proofs.Common.{pos, negsuc, refl}
use Rattle.clip_regions.specs.Regions.{is_empty, holds, columns, rows, area}
use Rattle.plan_model.specs.Blocks.{block_cells}
use Rattle.torus_grid.proofs.worked.two_blocks_share_a_tile.Goals as goal

pub write-requires-clause-block : goal.write-requires-clause-block
unfolding is_empty holds block_cells
write-requires-clause-block g c = record { bx = pos 1; by = pos 1; held = refl }

pub write-requires-clause-many : goal.write-requires-clause-many
unfolding columns rows area
write-requires-clause-many g c = refl

pub write-requires-2-clause-block : goal.write-requires-2-clause-block
unfolding is_empty holds block_cells
write-requires-2-clause-block g c = record { bx = negsuc 0; by = pos 1; held = refl }

pub write-requires-2-clause-many : goal.write-requires-2-clause-many
unfolding columns rows area
write-requires-2-clause-many g c = refl
