use Rattle.std.proofs.Common.{◌≡◌, ◌-◌, ◌*◌, ◌^◌, ◌≤◌, sum_by}
use Rattle.std.specs.List.{range_with_len}
use Rattle.plan_model.specs.States.{finest_at}
use Rattle.plan_model.specs.Rounds.{unfilled_cells}
use Rattle.clip_flights.proofs.settling.cells_to_fill.Given as goal

abbrev pub invariant-loop-level : goal.invariant-loop-level
invariant-loop-level l = record {
  value : l.cells ≡ sum_by (unfilled_cells l.book.plan.state) (range_with_len (finest_at l.book.plan.state) (l.level - finest_at l.book.plan.state));
  few : l.cells ≤ 2 ^ 16 * l.level;
}
