use Rattle.std.proofs.Common.{◌≡◌, ◌≤◌, ◌*◌, length, take}
use Rattle.rice_residuals.specs.Code.{codes}
use Rattle.rice_residuals.proofs.encoding.codes_length.Given as goal

abbrev pub invariant-loop-value : goal.invariant-loop-value
invariant-loop-value l = record {
  total : l.total ≡ length (codes l.parameter (take l.value-index l.residuals));
  few : l.total ≤ 50 * l.value-index;
}
