use Rattle.std.proofs.Common.{◌≡◌, fold}
use Rattle.std.specs.List.{range_with_len}
use Rattle.plan_model.specs.Rounds.{finish_of}
use Rattle.plan_plain.specs.Flights.{IsAfter}
use Rattle.plan_plain.proofs.rounds.finishes.Given as goal

abbrev pub invariant-loop-p : goal.invariant-loop-p
invariant-loop-p l = record {
  value : l.run ≡ fold finish_of l.initial.run (range_with_len 0 l.p);
  after : IsAfter l.p l.initial.run l.run;
}
