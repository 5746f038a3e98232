use Rattle.std.proofs.Common.{◌≡◌, ◌-◌}
use Rattle.std.specs.List.{range_with_len, list_all}
use Rattle.plan_model.specs.States.{finest_at, is_whole}
use Rattle.clip_flights.proofs.settling.is_settled.Given as goal

abbrev pub invariant-loop-level : goal.invariant-loop-level
invariant-loop-level l =
    l.settled ≡ list_all (is_whole l.book.plan.state) (range_with_len (finest_at l.book.plan.state) (l.level - finest_at l.book.plan.state))
