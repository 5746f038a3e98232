use Rattle.std.proofs.Common.{◌≡◌}
use Rattle.clip_gate.proofs.worked.split_off.Given as goal

abbrev pub invariant-loop : goal.invariant-loop
invariant-loop l = l.pass.clip ≡ l.initial.pass.clip
