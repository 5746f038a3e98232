use Rattle.std.proofs.Common.{◌≡◌, ◌≤◌, length, fold, take}
use Rattle.plan_model.specs.Histories.{Run, Asked, run_from, then_step}
use Rattle.plan_plain.specs.SoundRuns.{IsSoundRun}
use Rattle.plan_plain.specs.Asked.{asked_of}
use Rattle.plan_plain.proofs.runs.run.Given as goal

abbrev pub invariant-loop-asked : goal.invariant-loop-asked
invariant-loop-asked l = record {
  value : l.run ≡ fold (λ (r : Run) (asked : Asked). then_step r asked.pass asked.event) (run_from l.fn.state) (asked_of (take l.asked-index l.events));
  sound : IsSoundRun l.run;
  few : length l.run.history ≤ l.asked-index;
  levels : length l.run.state.levels ≡ length l.fn.state.levels;
}
