use Rattle.std.proofs.Common.{◌≡◌, length, ap, sym, ◌∙◌, arith}
use Rattle.plan_model.specs.Strips.{first_of, current_strip}
use Rattle.strip_planner.proofs.Sides.{first_none, first_some}
use Rattle.strip_planner.proofs.window_strips.current_strip.Goals as goal

pub returns-then-count-eq0 : goal.returns-then-count-eq0
unfolding current_strip
returns-then-count-eq0 c =
    let none : length c.strips-all.result ≡ 0 = omega (arith, c.count.ensures.value) in
    sym (ap first_of (sym c.strips-all.ensures) ∙ first_none c.strips-all.result none)

pub returns : goal.returns
unfolding current_strip
returns c =
    sym (ap first_of (sym c.strips-all.ensures) ∙ first_some c.strips-all.result c.at.result c.at.ensures)
