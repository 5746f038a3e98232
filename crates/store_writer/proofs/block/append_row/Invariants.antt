use Rattle.std.proofs.Common.{◌≡◌, ◌++◌, pos}
use Rattle.store_writer.specs.Entries.{row_heights}
use Rattle.store_writer.proofs.block.append_row.Given as goal

abbrev pub invariant-loop-a : goal.invariant-loop-a
invariant-loop-a g l =
    l.out.items ≡ l.initial.out.items ++ row_heights (g.F.Heights.heights l.finer) (pos l.cells.x0) (pos l.j) l.a
