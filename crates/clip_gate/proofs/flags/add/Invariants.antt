use Rattle.std.proofs.Common.{◌≡◌, ℕ, ◌<◌, ◌≤◌, ◌||◌, length}
use Rattle.gate_rule.specs.Flags.{flag}
use Rattle.clip_gate.proofs.flags.add.Given as goal

abbrev pub invariant-loop-place : goal.invariant-loop-place
invariant-loop-place l =
    (length l.flags ≡ 16)
    × ((p : ℕ) → p < l.place → flag l.flags p ≡ flag l.initial.flags p || flag l.more p)
    × ((p : ℕ) → l.place ≤ p → flag l.flags p ≡ flag l.initial.flags p)
