use Rattle.std.proofs.Common.{◌≡◌}
use Rattle.mesh_laws.specs.Conditions.{IsBefore}
use Rattle.ring_mesh.specs.Added.{ring_before}
use Rattle.ring_mesh.proofs.vertices.ring_before.Given as goal

abbrev pub invariant-loop-n : goal.invariant-loop-n
invariant-loop-n l = IsBefore l.actives l.n l.finer × (l.finer ≡ ring_before l.actives l.n)
