use Rattle.std.proofs.Common.{ℕ, ◌≤◌, ◌+◌, ◌*◌, length, subst, arith, ◌≡◌}
use Rattle.rice_residuals.proofs.CodeWrite.{IsLeastBelow, least_is_best, least_stays}
use Rattle.rice_residuals.proofs.encoding.parameter_of.Goals as goal

pub returns-clause-best : goal.returns-clause-best
returns-clause-best c =
    let l = c.loop-parameter in
    let all : l.parameter ≡ 16 = omega arith in
    least_is_best c.args.residuals.now l.best l.least (subst (λ (n : ℕ). IsLeastBelow c.args.residuals.now n l.best l.least) all l.invariant)

pub returns-then-count-from-clause-best : goal.returns-then-count-from-clause-best
returns-then-count-from-clause-best c =
    let l = c.loop-parameter in
    let enough : l.least ≤ length c.args.residuals.now * (l.parameter + 1) = rw c.from.ensures at c.if-count-from.true in
    least_is_best c.args.residuals.now l.best l.least (least_stays c.args.residuals.now l.parameter l.best l.least (omega arith) l.invariant enough)
