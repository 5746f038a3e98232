use Rattle.std.proofs.Common.{◌≡◌, ◌≤◌, ◌-◌, ℕ, flat_map, reverse, length}
use Rattle.std.specs.List.{range_with_len}
use Rattle.plan_model.specs.States.{finest_at}
use Rattle.plan_model.specs.Claims.{offers_of, strip_at}
use Rattle.plan_plain_steps.proofs.offers.offers_from_coarsest.Given as goal

abbrev pub invariant-loop-level : goal.invariant-loop-level
invariant-loop-level l = record {
  value : l.out.items ≡ flat_map (λ (n : ℕ). offers_of l.fn.state n (strip_at l.fn.state n)) (reverse (range_with_len l.level (length l.fn.state.levels - l.level)));
  least : finest_at l.fn.state ≤ l.level;
}
