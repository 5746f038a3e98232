use Rattle.std.proofs.Common.{◌≡◌, length, take}
use Rattle.plan_model.specs.States.{start_state}
use Rattle.plan_model.specs.Histories.{state_after}
use Rattle.plan_model.specs.Sound.{IsSound}
use Rattle.plan_plain.proofs.histories.state_of_history.Given as goal

abbrev pub invariant-loop-entry : goal.invariant-loop-entry
invariant-loop-entry l = record {
  value : l.state ≡ state_after (start_state l.fn.k l.fn.levels) (take l.entry-index l.entries);
  sound : IsSound l.entry-index l.state;
  levels : length l.state.levels ≡ l.fn.levels;
}
