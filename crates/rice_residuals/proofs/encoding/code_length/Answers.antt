use Rattle.std.proofs.Common.{ℕ, ◌+◌, ◌/◌, ◌^◌, ◌∙◌, ap}
use Rattle.rice_residuals.proofs.CodeWrite.{short_length, long_length}
use Rattle.rice_residuals.proofs.encoding.code_length.Goals as goal

pub returns-then-ones-lt-LONG_ONES-clause-length : goal.returns-then-ones-lt-LONG_ONES-clause-length
returns-then-ones-lt-LONG_ONES-clause-length c =
    ap (λ (n : ℕ). c.args.folded / 2 ^ c.args.parameter + 1 + n) c.from.ensures ∙ short_length c.args.parameter c.args.folded c.if-ones-lt-LONG_ONES.true

pub returns-else-ones-lt-LONG_ONES-clause-length : goal.returns-else-ones-lt-LONG_ONES-clause-length
returns-else-ones-lt-LONG_ONES-clause-length c = long_length c.args.parameter c.args.folded c.if-ones-lt-LONG_ONES.false
