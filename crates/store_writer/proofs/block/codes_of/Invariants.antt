use Rattle.std.proofs.Common.{◌≡◌, ◌*◌, ◌≤◌}
use Rattle.four_point.specs.Patches.{patch_height}
use Rattle.rice_residuals.specs.List.{residual_list}
use Rattle.store_writer.specs.Entries.{code_over, rows_codes}
use Rattle.store_writer.specs.Cells.{region_of}
use Rattle.store_writer.proofs.block.codes_of.Given as goal

abbrev pub invariant-loop-b : goal.invariant-loop-b
invariant-loop-b g l = record {
  few : l.codes.count ≤ 8 * l.b;
  list :
      residual_list l.codes
      ≡ rows_codes (code_over (patch_height l.predicted.patch.now) (g.F.Heights.heights l.finer) l.step) (region_of l.cells) l.b;
}
