use Rattle.std.proofs.Common.{◌≡◌, ◌++◌}
use Rattle.store_writer.specs.Entries.{rows_heights}
use Rattle.store_writer.specs.Cells.{region_of}
use Rattle.store_writer.proofs.block.append_rows.Given as goal

abbrev pub invariant-loop-b : goal.invariant-loop-b
invariant-loop-b g l =
    l.out.items ≡ l.initial.out.items ++ rows_heights (g.F.Heights.heights l.finer) (region_of l.cells) l.b
