use Rattle.std.proofs.Common.{◌≡◌}
use Rattle.terrain_model.specs.Terrain.{level_height}
use Rattle.store_model.specs.Sizes.{cells_on, blocks_on, block_region}
use Rattle.store_writer.specs.Tables.{restored_in}
use Rattle.store_writer.proofs.Tables.{blocks_before}
use Rattle.store_writer.proofs.table.restored_table.Given as goal

abbrev pub invariant-loop-k : goal.invariant-loop-k
invariant-loop-k g l =
    l.heights.items
    ≡ blocks_before (λ k. restored_in (g.C.Heights.heights l.coarser) (level_height l.grid l.level) l.step (block_region l.grid.width l.grid.height l.level k)) (blocks_on (cells_on l.grid.width l.level)) l.k
