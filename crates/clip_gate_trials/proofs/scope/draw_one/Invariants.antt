use Rattle.std.proofs.Common.{◌≡◌}
use Rattle.clip_gate_trials.proofs.scope.draw_one.Given as goal

abbrev pub invariant-tries : goal.invariant-tries
invariant-tries g l = l.done.pass.clip ≡ l.initial.done.pass.clip
