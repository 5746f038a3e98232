use Rattle.std.proofs.Common.{◌≡◌, ◌++◌}
use Rattle.terrain_model.specs.Terrain.{level_height}
use Rattle.store_writer.specs.Entries.{word_entry}
use Rattle.store_writer.proofs.Levels.{entries_before}
use Rattle.store_writer.proofs.store.append_words.Given as goal

abbrev pub invariant-loop-k : goal.invariant-loop-k
invariant-loop-k g l =
    l.out.items
    ≡ l.initial.out.items ++ entries_before (word_entry (g.C.Heights.heights l.coarser) (level_height l.grid l.level) l.step) l.grid.width l.grid.height l.level l.k
