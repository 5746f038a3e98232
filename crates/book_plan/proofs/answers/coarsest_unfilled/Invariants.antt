use Rattle.std.proofs.Common.{◌≡◌, ◌<◌, ◌≤◌, ◌-◌, ℕ, not, filter, reverse, length}
use Rattle.std.specs.List.{range_with_len}
use Rattle.std.specs.Option.{IfSome}
use Rattle.plan_model.specs.Strips.{first_of}
use Rattle.plan_model.specs.States.{finest_at, is_whole}
use Rattle.book_plan.specs.Desks.{state_of}
use Rattle.book_plan.proofs.answers.coarsest_unfilled.Given as goal

abbrev pub invariant-loop-level : goal.invariant-loop-level
invariant-loop-level l = record {
  value : l.first ≡ first_of (filter (λ (n : ℕ). not (is_whole (state_of l.fn.desk) n)) (reverse (range_with_len l.level (length (state_of l.fn.desk).levels - l.level))));
  least : finest_at (state_of l.fn.desk) ≤ l.level;
  there : IfSome l.first (λ (n : ℕ). n < length (state_of l.fn.desk).levels);
}
