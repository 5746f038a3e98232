use Rattle.std.proofs.Common.{◌≡◌, ◌-◌, ◌*◌}
use Rattle.plan_model.specs.Rounds.{rounds}
use Rattle.plan_plain.specs.Flights.{IsAfter}
use Rattle.plan_plain.proofs.rounds.rounds.Given as goal

abbrev pub invariant-flown : goal.invariant-flown
invariant-flown l = record {
  value : rounds (l.fn.most - l.counter) l.fn.workers l.run ≡ rounds l.fn.most l.fn.workers l.initial.run;
  after : IsAfter (64 * l.counter) l.initial.run l.run;
}
