use Rattle.rice_residuals.proofs.CodeWrite.{IsLeastBelow}
use Rattle.rice_residuals.proofs.encoding.parameter_of.Given as goal

abbrev pub invariant-loop-parameter : goal.invariant-loop-parameter
invariant-loop-parameter l = IsLeastBelow l.residuals l.parameter l.best l.least
