use Rattle.std.proofs.Common.{◌≡◌, ◌+◌, ◌≤◌, drop}
use Rattle.gate_rule.specs.Flags.{how_many}
use Rattle.clip_gate.proofs.flags.how_many.Given as goal

abbrev pub invariant-loop-place : goal.invariant-loop-place
invariant-loop-place l = (l.count ≤ l.place) × (l.count + how_many (drop l.place l.flags) ≡ how_many l.flags)
