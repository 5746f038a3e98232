-- By cases on which side is short.
use Rattle.std.proofs.Common.{sym, ◌∙◌}
use Rattle.active_region.proofs.Regions.{drawable_narrow, drawable_low, drawable_other}
use Rattle.active_region.proofs.drawing.drawable.Goals as goal

pub returns-then-is_narrow : goal.returns-then-is_narrow
returns-then-is_narrow c =
    c.empty.ensures.value ∙ sym (drawable_narrow c.args.region (sym c.is_narrow.ensures ∙ c.if-is_narrow.true))

pub returns-then-is_low : goal.returns-then-is_low
returns-then-is_low c =
    c.empty-then-is_low.ensures.value ∙ sym (drawable_low c.args.region (sym c.is_narrow.ensures ∙ c.if-is_narrow.false) (sym c.is_low.ensures ∙ c.if-is_low.true))

pub returns : goal.returns
returns c =
    sym (drawable_other c.args.region (sym c.is_narrow.ensures ∙ c.if-is_narrow.false) (sym c.is_low.ensures ∙ c.if-is_low.false))
