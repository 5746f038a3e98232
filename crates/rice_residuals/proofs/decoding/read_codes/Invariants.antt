use Rattle.std.proofs.Common.{◌≡◌, ◌≤◌, ◌+◌, ◌-◌, ◌++◌, length}
use Rattle.rice_residuals.specs.Code.{codes}
use Rattle.rice_residuals.specs.List.{residual_list}
use Rattle.rice_residuals.proofs.decoding.read_codes.Given as goal

abbrev pub invariant-loop-found : goal.invariant-loop-found
invariant-loop-found l = record {
  within : l.found.count ≤ l.count;
  counted : length (residual_list l.found) ≡ l.found.count;
  codes : l.fn.reader.left ≡ codes l.parameter (residual_list l.found) ++ l.reader.left;
  end : l.reader.place + length l.reader.left ≡ l.fn.reader.place + length l.fn.reader.left;
}

abbrev pub decreases-loop-found : goal.decreases-loop-found
decreases-loop-found l = l.count - l.found.count
