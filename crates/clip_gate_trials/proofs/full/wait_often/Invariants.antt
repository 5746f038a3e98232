use Rattle.std.proofs.Common.{◌≡◌}
use Rattle.clip_gate_trials.proofs.full.wait_often.Given as goal

abbrev pub invariant-loop : goal.invariant-loop
invariant-loop g l = l.pass.clip ≡ l.initial.pass.clip
