use Rattle.std.proofs.Common.{◌≡◌}
use Rattle.clip_gate.specs.Calls.{HasWaited}
use Rattle.clip_frames.specs.Reading.{AreRead}
use Rattle.clip_frames.proofs.reading.read_all.Given as goal

abbrev pub invariant-loop-level : goal.invariant-loop-level
invariant-loop-level g l =
    HasWaited l.initial.pass l.pass × (l.copies.k ≡ l.initial.copies.k) × (l.copies.actives ≡ l.initial.copies.actives)
    × AreRead l.clip.land.terrain l.level l.copies
