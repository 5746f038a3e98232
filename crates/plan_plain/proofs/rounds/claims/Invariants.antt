use Rattle.std.proofs.Common.{◌≡◌, ◌-◌}
use Rattle.std.specs.List.{range_with_len}
use Rattle.plan_model.specs.Rounds.{claims}
use Rattle.plan_plain.specs.Flights.{IsAfter}
use Rattle.plan_plain.proofs.rounds.claims.Given as goal

abbrev pub invariant-loop-p : goal.invariant-loop-p
invariant-loop-p l = record {
  value : claims l.run (range_with_len l.p (l.fn.workers - l.p)) ≡ claims l.initial.run (range_with_len 0 l.fn.workers);
  after : IsAfter l.p l.initial.run l.run;
}
