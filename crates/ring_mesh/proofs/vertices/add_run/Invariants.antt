use Rattle.std.proofs.Common.{◌≡◌, ◌++◌, map, pos, ◌+ℤ◌}
use Rattle.std.specs.List.{range_with_len}
use Rattle.mesh_model.specs.Vertices.{vertex_at}
use Rattle.ring_mesh.proofs.vertices.add_run.Given as goal

abbrev pub invariant-loop-u : goal.invariant-loop-u
invariant-loop-u g l =
    l.vertices.items ≡ l.fn.vertices.items ++ map (λ u. vertex_at (g.G.Heights.terrain l.heights) l.k l.actives (record { level = l.level; i = l.run.i +ℤ pos u; j = l.run.j })) (range_with_len 0 l.u)
