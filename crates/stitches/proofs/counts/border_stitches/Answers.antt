-- The stitches along four sides are as many as the steps along two.
use Rattle.std.proofs.Common.{◌+◌, ◌∙◌, sym}
use Rattle.stitches.proofs.Ways.{border_is}
use Rattle.stitches.proofs.counts.border_stitches.Goals as goal

pub returns-clause-value : goal.returns-clause-value
returns-clause-value c =
    (λ t. c.steps_of.ensures.value t + c.steps_of-2.ensures.value t) ∙ border_is c.args.active (sym c.is_empty.ensures.value ∙ c.if-is_empty.false)
