use Rattle.std.proofs.Common.{◌≡◌, ◌++◌}
use Rattle.terrain_model.specs.Terrain.{level_height}
use Rattle.store_writer.specs.Entries.{plain_entry}
use Rattle.store_writer.proofs.Levels.{entries_before}
use Rattle.store_writer.proofs.store.append_heights.Given as goal

abbrev pub invariant-loop-k : goal.invariant-loop-k
invariant-loop-k l =
    l.out.items
    ≡ l.initial.out.items ++ entries_before (plain_entry (level_height l.grid l.level)) l.grid.width l.grid.height l.level l.k
