use Rattle.std.proofs.Common.{◌≡◌, ◌++◌, take, string_bytes}
use Rattle.std.specs.List.{flat_map}
use Rattle.mesh_model.specs.Text.{vertex_line}
use Rattle.mesh_plain_texts.proofs.texts.write_vertices.Given as goal

abbrev pub invariant-loop-vertex : goal.invariant-loop-vertex
invariant-loop-vertex l = string_bytes l.text ≡ string_bytes l.fn.text ++ flat_map vertex_line (take l.vertex-index l.vertices)
