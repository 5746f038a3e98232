use Rattle.std.proofs.Common.{◌≡◌, ◌+◌, ◌-◌, ◌≤◌, drop}
use Rattle.gate_rule.specs.Flags.{least}
use Rattle.clip_gate.proofs.flags.least.Given as goal

abbrev pub invariant-loop-place : goal.invariant-loop-place
invariant-loop-place l = (l.place ≤ 16) × (l.place + least (drop l.place l.flags) ≡ least l.flags)

abbrev pub decreases-loop-place : goal.decreases-loop-place
decreases-loop-place l = 16 - l.place
