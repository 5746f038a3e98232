-- A box that holds the triangle before holds it still when it is wider, and the triangle has three places.
use Rattle.std.proofs.Common.{◌≡◌, ℕ, map, length, ap, sym, ◌∙◌, rules}
use Rattle.std.specs.Prelude.{slice_index}
use Rattle.mesh_model.specs.declared.shapes.Bounds.{Bounds}
use Rattle.mesh_model.specs.Vertices.{vertex_of_place}
use Rattle.ring_mesh.specs.Boxes.{wider, widest}
use Rattle.ring_mesh.proofs.Boxes.{held_after, three}
use Rattle.ring_mesh.proofs.bounds.widened_by.Goals as goal

pub widened_unless-second-requires-clause-one : goal.widened_unless-second-requires-clause-one
widened_unless-second-requires-clause-one c =
    held_after c.args.vertices.now c.args.bounds c.widened_unless-first.result _ _ c.widened_unless-first.ensures c.requires.second

pub widened_unless-second-requires-clause-two : goal.widened_unless-second-requires-clause-two
widened_unless-second-requires-clause-two c =
    held_after c.args.vertices.now c.args.bounds c.widened_unless-first.result _ _ c.widened_unless-first.ensures c.requires.third

pub returns : goal.returns
returns c =
    let vertices = c.args.vertices.now in
    let triangle = c.args.triangle.now in
    let corner = λ (k : ℕ). vertex_of_place vertices (slice_index triangle k) in
    let long : length triangle ≡ 3 = search rules in
    c.widened.ensures
    ∙ (λ t. wider (c.widened_unless-second.ensures t) (c.vertex_named.ensures t))
    ∙ ap (λ (box : Bounds). wider (wider box (corner 1)) (corner 2)) c.widened_unless-first.ensures
    ∙ ap (λ places. widest c.args.bounds (map (vertex_of_place vertices) places)) (sym (three triangle long))
