use Rattle.std.proofs.Common.{◌≡◌, ◌++◌, drop}
use Rattle.mesh_model.specs.Mesh.{vertices_of}
use Rattle.mesh_plain.proofs.bounds.vertices_of.Given as goal

abbrev pub invariant-loop-triangle : goal.invariant-loop-triangle
invariant-loop-triangle l =
    l.found.items ++ vertices_of l.vertices (drop l.triangle-index l.triangles) ≡ vertices_of l.vertices l.triangles
