use Rattle.std.proofs.Common.{◌≤◌}
use Rattle.ring_mesh.specs.Listed.{IsListed}
use Rattle.ring_mesh.proofs.vertices.ring_vertices.Given as goal

abbrev pub invariant-loop-level : goal.invariant-loop-level
invariant-loop-level g l = (l.level ≤ l.to) × IsListed (g.G.Heights.terrain l.heights) l.k l.actives l.from l.level l.finer l.vertices.items
