-- By cases on which of the two is empty.
use Rattle.std.proofs.Common.{sym, ◌∙◌}
use Rattle.strip_planner.proofs.Cases.{hull_right, hull_left, hull_both}
use Rattle.strip_planner.proofs.window_strips.hull.Goals as goal

pub returns-then-is_empty : goal.returns-then-is_empty
returns-then-is_empty c = record {
  value = sym (hull_right c.args.a c.args.b (sym c.is_empty.ensures.value ∙ c.if-is_empty.true));
}

pub returns-then-is_empty-2 : goal.returns-then-is_empty-2
returns-then-is_empty-2 c = record {
  value = sym (hull_left c.args.a c.args.b (sym c.is_empty.ensures.value ∙ c.if-is_empty.false) (sym c.is_empty-2.ensures.value ∙ c.if-is_empty-2.true));
}

pub returns : goal.returns
returns c = record {
  value = c.span.ensures ∙ sym (hull_both c.args.a c.args.b (sym c.is_empty.ensures.value ∙ c.if-is_empty.false) (sym c.is_empty-2.ensures.value ∙ c.if-is_empty-2.false));
}
