use Rattle.std.proofs.Common.{◌≡◌, ℕ, ◌-◌, ◌≤◌, sum_by, length, ap, ◌∙◌, arith}
use Rattle.std.specs.List.{range_with_len}
use Rattle.plan_model.specs.States.{finest_at}
use Rattle.plan_model.specs.Rounds.{unfilled_cells, cells_to_fill}
use Rattle.plan_plain.proofs.Flown.{summed_more}
use Rattle.clip_flights.proofs.InUse.{finest_within}
use Rattle.clip_flights.proofs.settling.cells_to_fill.Goals as goal

pub loop-level-preserved : goal.loop-level-preserved
loop-level-preserved c =
    let st = c.args.book.now.plan.state in
    let from : finest_at st ≤ c.loop-level.level = omega (arith, c.finest-level.ensures, c.loop-level.auto.level) in
    record {
      value = summed_more (unfilled_cells st) (finest_at st) c.loop-level.level c.loop-level.cells c.unfilled_cells-cells.result from c.unfilled_cells-cells.ensures.value c.loop-level.invariant.value;
      few = omega (arith, c.loop-level.invariant.few, c.unfilled_cells-cells.ensures.few);
    }

pub returns : goal.returns
unfolding cells_to_fill
returns c =
    let st = c.args.book.now.plan.state in
    let at_end : c.loop-level.level ≡ length st.levels = omega (arith, c.loop-level-test.false, c.loop-level.auto.level-end, c.levels-level-end.ensures, c.finest-level.ensures, finest_within st) in
    c.loop-level.invariant.value ∙ ap (λ (n : ℕ). sum_by (unfilled_cells st) (range_with_len (finest_at st) (n - finest_at st))) at_end
