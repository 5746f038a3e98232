-- The lists are those of the definition.
use Rattle.std.proofs.Common.{List, ap, ◌∙◌}
use Rattle.mesh_model.specs.declared.shapes.Vertex.{Vertex}
use Rattle.mesh_model.specs.Mesh.{mesh_of_parts, parts_from}
use Rattle.mesh_plain.proofs.meshes.mesh_of_parts.Goals as goal

pub returns : goal.returns
unfolding mesh_of_parts
returns c =
    let parts = c.in_ok-listed.ensures.value ∙ ap (λ (vertices : List Vertex). parts_from vertices 0 c.args.parts.now) c.as_slice.ensures.value in
    record { value = λ t. record { vertices = c.args.vertices.items; triangles = c.in_ok-triangles.ensures t; parts = parts t } }
