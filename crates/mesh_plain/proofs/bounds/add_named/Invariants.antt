use Rattle.std.proofs.Common.{◌≡◌, ◌++◌, map, drop}
use Rattle.mesh_model.specs.Vertices.{vertex_of_place}
use Rattle.mesh_plain.proofs.bounds.add_named.Given as goal

abbrev pub invariant-loop-place : goal.invariant-loop-place
invariant-loop-place l =
    l.found.items ++ map (vertex_of_place l.vertices) (drop l.place-index l.places) ≡ l.fn.found.items ++ map (vertex_of_place l.vertices) l.places
