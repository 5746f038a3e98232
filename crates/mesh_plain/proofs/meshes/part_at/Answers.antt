-- Level, kind and count are the part's own, and the bounds those of its triangles' vertices.
use Rattle.std.proofs.Common.{ℕ, List, length, ap, ◌∙◌}
use Rattle.mesh_model.specs.Mesh.{part_at, vertices_of, bounds_of}
use Rattle.mesh_plain.proofs.meshes.part_at.Goals as goal

pub returns : goal.returns
unfolding part_at
returns c =
    let corners = c.as_slice.ensures.value ∙ c.in_ok-corners.ensures.value ∙ ap (vertices_of c.args.vertices.now) c.triangles-triangles.ensures.value in
    let bounds = c.in_ok-bounds.ensures.value ∙ ap bounds_of corners in
    let count = ap (length {A = List ℕ}) c.triangles-triangles.ensures.value in
    record {
      value = λ t. record {
        level = c.level.ensures.value t;
        kind = c.kind.ensures.value t;
        first = c.args.first;
        count = count t;
        bounds = bounds t;
      };
    }
