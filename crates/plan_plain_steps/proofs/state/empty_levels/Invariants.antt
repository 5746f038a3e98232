use Rattle.std.proofs.Common.{◌≡◌, replicate}
use Rattle.plan_model.specs.States.{empty_level}
use Rattle.plan_plain_steps.proofs.state.empty_levels.Given as goal

abbrev pub invariant-made : goal.invariant-made
invariant-made l = l.out.items ≡ replicate l.counter empty_level
