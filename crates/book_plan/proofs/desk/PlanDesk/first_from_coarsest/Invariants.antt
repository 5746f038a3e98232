use Rattle.std.proofs.Common.{◌≡◌, ◌-◌, ◌≤◌, flat_map, reverse, length}
use Rattle.std.specs.List.{range_with_len}
use Rattle.plan_model.specs.Strips.{first_of}
use Rattle.plan_model.specs.States.{finest_at}
use Rattle.book_plan.specs.Desks.{state_of}
use Rattle.book_plan.specs.Offered.{jobs_on}
use Rattle.book_plan.proofs.desk.PlanDesk.first_from_coarsest.Given as goal

abbrev pub invariant-loop-level : goal.invariant-loop-level
invariant-loop-level l = record {
  value : l.first ≡ first_of (flat_map (jobs_on (state_of l.fn.self)) (reverse (range_with_len l.level (length (state_of l.fn.self).levels - l.level))));
  least : finest_at (state_of l.fn.self) ≤ l.level;
}
