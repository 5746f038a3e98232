use Rattle.std.proofs.Common.{◌≡◌, ◌+◌, ◌≤◌, ◌++◌, pos}
use Rattle.four_point.specs.Patches.{patch_height}
use Rattle.rice_residuals.specs.List.{residual_list}
use Rattle.store_writer.specs.Entries.{code_over, row_codes}
use Rattle.store_writer.proofs.block.push_row.Given as goal

abbrev pub invariant-loop-a : goal.invariant-loop-a
invariant-loop-a g l = record {
  few : l.codes.count ≤ l.initial.codes.count + l.a;
  list :
      residual_list l.codes
      ≡ residual_list l.initial.codes ++ row_codes (code_over (patch_height l.predicted.patch.now) (g.F.Heights.heights l.finer) l.step) (pos l.cells.x0) (pos l.j) l.a;
}
