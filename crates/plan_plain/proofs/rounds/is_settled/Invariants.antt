use Rattle.std.proofs.Common.{◌≡◌, ◌-◌}
use Rattle.std.specs.List.{range_with_len, list_all}
use Rattle.plan_model.specs.States.{finest_at, is_whole}
use Rattle.plan_plain.proofs.rounds.is_settled.Given as goal

abbrev pub invariant-loop-l : goal.invariant-loop-l
invariant-loop-l l = l.settled ≡ list_all (is_whole l.fn.state) (range_with_len (finest_at l.fn.state) (l.l - finest_at l.fn.state))
