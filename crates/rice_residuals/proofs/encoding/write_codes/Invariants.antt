use Rattle.std.proofs.Common.{◌≡◌, ◌++◌, take}
use Rattle.rice_residuals.specs.Code.{codes}
use Rattle.rice_residuals.proofs.encoding.write_codes.Given as goal

abbrev pub invariant-loop-value : goal.invariant-loop-value
invariant-loop-value l = l.writer ≡ l.fn.writer ++ codes l.parameter (take l.value-index l.residuals)
