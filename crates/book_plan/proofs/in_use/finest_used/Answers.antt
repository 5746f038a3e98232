-- One level fewer at each turn, the finest first.
use Rattle.std.proofs.Common.{◌≡◌, ℕ, ◌+◌, ◌-◌, filter, unwrap_or, ap, sym, ◌∙◌, arith}
use Rattle.std.specs.List.{range_with_len}
use Rattle.plan_model.specs.Strips.{first_of}
use Rattle.plan_model.specs.States.{is_seen, finest_used}
use Rattle.book_plan.proofs.Firsts.{first_here, first_later}
use Rattle.book_plan.proofs.in_use.finest_used.Goals as goal

pub loop-level-preserved : goal.loop-level-preserved
loop-level-preserved c =
    first_later (is_seen c.args.k c.args.levels c.args.altitude) c.loop-level.level (c.args.levels - c.loop-level.level) (c.args.levels - (c.loop-level.level + 1)) (omega arith) (sym c.is_seen.ensures.value ∙ c.if-is_seen.false) ∙ c.loop-level.invariant

pub returns-then-is_seen-clause-value : goal.returns-then-is_seen-clause-value
unfolding finest_used
returns-then-is_seen-clause-value c =
    ap (λ o. unwrap_or o 0) (sym (first_here (is_seen c.args.k c.args.levels c.args.altitude) c.loop-level.level (c.args.levels - c.loop-level.level) (omega arith) (sym c.is_seen.ensures.value ∙ c.if-is_seen.true)) ∙ c.loop-level.invariant)

pub returns-clause-value : goal.returns-clause-value
unfolding finest_used
returns-clause-value c =
    let none : c.args.levels - c.loop-level.level ≡ 0 = omega arith in
    ap (λ (n : ℕ). unwrap_or (first_of (filter (is_seen c.args.k c.args.levels c.args.altitude) (range_with_len c.loop-level.level n))) 0) (sym none) ∙ ap (λ o. unwrap_or o 0) c.loop-level.invariant
