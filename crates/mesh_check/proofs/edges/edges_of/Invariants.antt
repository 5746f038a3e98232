use Rattle.std.proofs.Common.{◌≡◌, ◌++◌, drop}
use Rattle.mesh_check.specs.Keys.{edge_keys}
use Rattle.mesh_check.proofs.edges.edges_of.Given as goal

abbrev pub invariant-loop-triangle : goal.invariant-loop-triangle
invariant-loop-triangle l = edge_keys l.triangles ≡ l.keys.items ++ edge_keys (drop l.triangle-index l.triangles)
