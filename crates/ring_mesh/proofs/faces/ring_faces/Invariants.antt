use Rattle.std.proofs.Common.{◌≤◌}
use Rattle.ring_mesh.specs.Added.{IsUnderWay}
use Rattle.ring_mesh.proofs.faces.ring_faces.Given as goal

abbrev pub invariant-loop-level : goal.invariant-loop-level
invariant-loop-level l = (l.level ≤ l.to) × IsUnderWay l.vertices l.actives l.from l.level l.finer l.faces.triangles.items l.faces.parts.items
