use Rattle.std.proofs.Common.{◌≡◌, ◌++◌, take, map, string_bytes}
use Rattle.std.specs.List.{flat_map}
use Rattle.mesh_model.specs.Text.{triangle_line}
use Rattle.mesh_model.specs.Seen.{new_place}
use Rattle.mesh_plain_texts.proofs.seen.write_renumbered.Given as goal

abbrev pub invariant-loop-triangle : goal.invariant-loop-triangle
invariant-loop-triangle l =
    string_bytes l.text ≡ string_bytes l.fn.text ++ flat_map (λ triangle. triangle_line (map (new_place l.triangles) triangle)) (take l.triangle-index l.triangles)
