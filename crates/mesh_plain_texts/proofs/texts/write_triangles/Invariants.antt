use Rattle.std.proofs.Common.{◌≡◌, ◌++◌, take, string_bytes}
use Rattle.std.specs.List.{flat_map}
use Rattle.mesh_model.specs.Text.{triangle_line}
use Rattle.mesh_plain_texts.proofs.texts.write_triangles.Given as goal

abbrev pub invariant-loop-triangle : goal.invariant-loop-triangle
invariant-loop-triangle l = string_bytes l.text ≡ string_bytes l.fn.text ++ flat_map triangle_line (take l.triangle-index l.triangles)
