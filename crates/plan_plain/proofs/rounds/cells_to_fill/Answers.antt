-- One more level at each turn.
use Rattle.std.proofs.Common.{◌≡◌, ℕ, ◌-◌, ◌≤◌, sum_by, length, ap, ◌∙◌, arith}
use Rattle.std.specs.List.{range_with_len}
use Rattle.plan_model.specs.States.{finest_at}
use Rattle.plan_model.specs.Rounds.{unfilled_cells, cells_to_fill}
use Rattle.plan_plain.proofs.Flown.{summed_more}
use Rattle.plan_plain.proofs.rounds.cells_to_fill.Goals as goal

pub loop-l-preserved : goal.loop-l-preserved
loop-l-preserved c =
    let from : finest_at c.args.state.now ≤ c.loop-l.l = omega (arith, c.finest-l.ensures.value, c.loop-l.auto.l) in
    record {
      value = summed_more (unfilled_cells c.args.state.now) (finest_at c.args.state.now) c.loop-l.l c.loop-l.cells c.unfilled_cells.result from c.unfilled_cells.ensures.value c.loop-l.invariant.value;
      few = omega (arith, c.loop-l.invariant.few, c.unfilled_cells.ensures.few);
    }

pub returns-clause-value : goal.returns-clause-value
unfolding cells_to_fill
returns-clause-value c =
    let at_end : c.loop-l.l ≡ length c.args.state.now.levels = omega (arith, c.loop-l-test.false, c.loop-l.auto.l-end, c.level_count-l-end.ensures.value, c.finest-l.ensures.below) in
    c.loop-l.invariant.value ∙ ap (λ (n : ℕ). sum_by (unfilled_cells c.args.state.now) (range_with_len (finest_at c.args.state.now) (n - finest_at c.args.state.now))) at_end
