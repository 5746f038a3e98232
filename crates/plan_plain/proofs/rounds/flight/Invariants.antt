use Rattle.std.proofs.Common.{◌≡◌, ◌*◌, ◌^◌, fold, take}
use Rattle.plan_model.specs.States.{start_state}
use Rattle.plan_model.specs.Histories.{run_from}
use Rattle.plan_model.specs.Rounds.{fly_line}
use Rattle.plan_plain.specs.Flights.{IsAfter}
use Rattle.plan_plain.proofs.rounds.flight.Given as goal

abbrev pub invariant-loop-line : goal.invariant-loop-line
invariant-loop-line l = record {
  value : l.run ≡ fold (fly_line l.fn.workers) (run_from (start_state l.fn.k l.fn.levels)) (take l.line-index l.script);
  after : IsAfter (2 ^ 26 * l.line-index) (run_from (start_state l.fn.k l.fn.levels)) l.run;
}
