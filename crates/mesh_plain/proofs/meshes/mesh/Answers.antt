-- The vertices and the parts are those of the definition.
use Rattle.std.proofs.Common.{◌≡◌, List, length, ap, ap₂, subst, ◌∙◌, arith}
use Rattle.std.specs.Result.{IfOk}
use Rattle.mesh_model.specs.declared.shapes.Vertex.{Vertex}
use Rattle.mesh_model.specs.Parts.{parts_of_regions}
use Rattle.mesh_model.specs.Mesh.{MeshLists, mesh_of_parts}
use Rattle.mesh_plain.proofs.Alike.{triangles_in, mesh_triangles, vertex_count, mesh_is}
use Rattle.mesh_plain.proofs.meshes.mesh.Goals as goal

pub parts_of_regions-requires-clause-few : goal.parts_of_regions-requires-clause-few
parts_of_regions-requires-clause-few c =
    let same = ap (length {A = Vertex}) (c.as_slice.ensures.value ∙ c.in_ok-vertices.ensures.value) ∙ vertex_count c.args.terrain.now c.args.k c.args.actives.now in
    omega (arith, same, c.requires.few_vertices)

pub mesh_of_parts-requires : goal.mesh_of_parts-requires
mesh_of_parts-requires c =
    let vertices = c.as_slice.ensures.value ∙ c.in_ok-vertices.ensures.value in
    let parts = c.as_slice-2.ensures.value ∙ c.in_ok-parts.ensures.value ∙ ap (λ (list : List Vertex). parts_of_regions list c.args.actives.now) vertices in
    let same = ap triangles_in parts ∙ mesh_triangles c.args.terrain.now c.args.k c.args.actives.now in
    record { few = omega (arith, same, c.requires.few_triangles) }

pub returns : goal.returns
returns c =
    let vertices = c.as_slice.ensures.value ∙ c.in_ok-vertices.ensures.value in
    let parts = c.as_slice-2.ensures.value ∙ c.in_ok-parts.ensures.value ∙ ap (λ (list : List Vertex). parts_of_regions list c.args.actives.now) vertices in
    let same = ap₂ mesh_of_parts c.in_ok-vertices.ensures.value parts ∙ mesh_is c.args.terrain.now c.args.k c.args.actives.now in
    record { value = subst (λ (lists : MeshLists). IfOk c.mesh_of_parts.result (λ mesh. mesh ≡ lists)) same c.mesh_of_parts.ensures.value }
