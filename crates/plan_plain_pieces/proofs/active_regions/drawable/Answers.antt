-- By cases on which side is short.
use Rattle.std.proofs.Common.{sym, ◌∙◌}
use Rattle.plan_plain_pieces.proofs.Drawn.{drawable_narrow, drawable_low, drawable_other}
use Rattle.plan_plain_pieces.proofs.active_regions.drawable.Goals as goal

pub returns-then-is_narrow-clause-value : goal.returns-then-is_narrow-clause-value
returns-then-is_narrow-clause-value c =
    c.empty.ensures.value ∙ sym (drawable_narrow c.args.region (sym c.is_narrow.ensures ∙ c.if-is_narrow.true))

pub returns-then-is_low-clause-value : goal.returns-then-is_low-clause-value
returns-then-is_low-clause-value c =
    c.empty-then-is_low.ensures.value ∙ sym (drawable_low c.args.region (sym c.is_narrow.ensures ∙ c.if-is_narrow.false) (sym c.is_low.ensures ∙ c.if-is_low.true))

pub returns-clause-value : goal.returns-clause-value
returns-clause-value c =
    sym (drawable_other c.args.region (sym c.is_narrow.ensures ∙ c.if-is_narrow.false) (sym c.is_low.ensures ∙ c.if-is_low.false))
