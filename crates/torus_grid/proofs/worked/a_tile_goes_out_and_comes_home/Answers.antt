use Rattle.std.proofs.Common.{negsuc, refl}
use Rattle.clip_regions.specs.Regions.{is_empty, holds, columns, rows, area}
use Rattle.plan_model.specs.Blocks.{block_cells}
use Rattle.torus_grid.proofs.worked.a_tile_goes_out_and_comes_home.Goals as goal

pub write-requires-clause-block : goal.write-requires-clause-block
unfolding is_empty holds block_cells
write-requires-clause-block g c = record { bx = negsuc 0; by = negsuc 0; held = refl }

pub write-requires-clause-many : goal.write-requires-clause-many
unfolding columns rows area
write-requires-clause-many g c = refl
