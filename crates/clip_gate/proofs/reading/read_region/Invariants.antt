use Rattle.std.proofs.Common.{◌≡◌}
use Rattle.std.specs.Vec.{vec_capacity}
use Rattle.clip_gate.specs.Reading.{AreFirst}
use Rattle.clip_gate.proofs.reading.read_region.Given as goal

abbrev pub invariant-loop-place : goal.invariant-loop-place
invariant-loop-place l = AreFirst l.book l.level l.region l.place l.out.items × (vec_capacity l.out ≡ vec_capacity l.initial.out)
