use Rattle.std.proofs.Common.{◌≡◌, ◌++◌}
use Rattle.store_writer.specs.Cells.{region_of}
use Rattle.store_writer.specs.Tables.{restored_in}
use Rattle.store_writer.proofs.Restored.{heights_before}
use Rattle.store_writer.proofs.table.append_restored.Given as goal

abbrev pub invariant-loop-n : goal.invariant-loop-n
invariant-loop-n g l =
    l.out.items
    ≡ l.initial.out.items ++ heights_before (restored_in (g.C.Heights.heights l.coarser) (g.F.Heights.heights l.finer) l.step (region_of l.cells)) l.cells.x0 l.cells.y0 l.n
