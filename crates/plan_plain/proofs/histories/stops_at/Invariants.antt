use Rattle.std.proofs.Common.{◌≡◌, take}
use Rattle.plan_model.specs.States.{start_state}
use Rattle.plan_model.specs.Histories.{IsLegalFrom, state_after}
use Rattle.plan_model.specs.Sound.{IsSound}
use Rattle.plan_plain.proofs.histories.stops_at.Given as goal

abbrev pub invariant-loop-i : goal.invariant-loop-i
invariant-loop-i l = record {
  value : l.state ≡ state_after (start_state l.fn.k l.fn.levels) (take l.i l.fn.entries);
  legal : IsLegalFrom (start_state l.fn.k l.fn.levels) (take l.i l.fn.entries);
  sound : IsSound l.i l.state;
}
