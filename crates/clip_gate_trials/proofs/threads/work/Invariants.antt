use Rattle.std.proofs.Common.{◌≡◌}
use Rattle.clip_gate_trials.proofs.threads.work.Given as goal

abbrev pub invariant-loop-number : goal.invariant-loop-number
invariant-loop-number g l = l.done.pass.clip ≡ l.initial.done.pass.clip
