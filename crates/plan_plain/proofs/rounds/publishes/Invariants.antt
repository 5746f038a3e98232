use Rattle.std.proofs.Common.{◌≡◌, ◌-◌, fold, length, reverse}
use Rattle.std.specs.List.{range_with_len}
use Rattle.plan_model.specs.Rounds.{publish_of}
use Rattle.plan_plain.specs.Flights.{IsAfter}
use Rattle.plan_plain.proofs.rounds.publishes.Given as goal

abbrev pub invariant-loop-l : goal.invariant-loop-l
invariant-loop-l l = record {
  value : l.run ≡ fold publish_of l.initial.run (reverse (range_with_len l.l (length l.initial.run.state.levels - l.l)));
  after : IsAfter (length l.initial.run.state.levels - l.l) l.initial.run l.run;
}
