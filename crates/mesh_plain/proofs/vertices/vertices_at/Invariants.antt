use Rattle.std.proofs.Common.{◌≡◌, map, take}
use Rattle.mesh_model.specs.Vertices.{vertex_at}
use Rattle.mesh_plain.specs.Rings.{level_cell}
use Rattle.mesh_plain.proofs.vertices.vertices_at.Given as goal

abbrev pub invariant-loop-cell : goal.invariant-loop-cell
invariant-loop-cell l = l.vertices.items ≡ map (λ cell. vertex_at l.terrain l.k l.actives (level_cell cell)) (take l.cell-index l.cells)
