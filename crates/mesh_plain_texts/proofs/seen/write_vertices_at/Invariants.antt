use Rattle.std.proofs.Common.{◌≡◌, ◌++◌, take, get_or, pos, string_bytes}
use Rattle.std.specs.List.{flat_map}
use Rattle.mesh_model.specs.Text.{vertex_line}
use Rattle.mesh_plain_texts.proofs.seen.write_vertices_at.Given as goal

abbrev pub invariant-loop-place : goal.invariant-loop-place
invariant-loop-place l =
    string_bytes l.text ≡ string_bytes l.fn.text ++ flat_map (λ place. vertex_line (get_or l.vertices place (record { x = pos 0; z = pos 0; height = pos 0 }))) (take l.place-index l.places)
