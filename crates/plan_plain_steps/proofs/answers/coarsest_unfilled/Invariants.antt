use Rattle.std.proofs.Common.{◌≡◌, ◌<◌, ◌≤◌, ◌-◌, ℕ, not, filter, reverse, length}
use Rattle.std.specs.List.{range_with_len}
use Rattle.std.specs.Option.{IfSome}
use Rattle.plan_model.specs.Strips.{first_of}
use Rattle.plan_model.specs.States.{finest_at, is_whole}
use Rattle.plan_plain_steps.proofs.answers.coarsest_unfilled.Given as goal

abbrev pub invariant-loop-level : goal.invariant-loop-level
invariant-loop-level l = record {
  value : l.first ≡ first_of (filter (λ (n : ℕ). not (is_whole l.fn.state n)) (reverse (range_with_len l.level (length l.fn.state.levels - l.level))));
  least : finest_at l.fn.state ≤ l.level;
  there : IfSome l.first (λ (n : ℕ). n < length l.fn.state.levels);
}
