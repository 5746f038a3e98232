use Rattle.std.proofs.Common.{◌≡◌, ◌-◌, ◌*◌, ◌^◌, ◌≤◌, sum_by}
use Rattle.std.specs.List.{range_with_len}
use Rattle.plan_model.specs.States.{finest_at}
use Rattle.plan_model.specs.Rounds.{unfilled_cells}
use Rattle.plan_plain.proofs.rounds.cells_to_fill.Given as goal

abbrev pub invariant-loop-l : goal.invariant-loop-l
invariant-loop-l l = record {
  value : l.cells ≡ sum_by (unfilled_cells l.fn.state) (range_with_len (finest_at l.fn.state) (l.l - finest_at l.fn.state));
  few : l.cells ≤ 2 ^ 16 * l.l;
}
