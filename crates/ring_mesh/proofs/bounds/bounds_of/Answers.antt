-- One triangle more, and no triangle left.
use Rattle.std.proofs.Common.{◌≡◌, ◌<◌, length, get_or, [], refl, ap, ◌∙◌, arith, rules}
use Rattle.mesh_model.specs.Mesh.{vertices_of, bounds_of}
use Rattle.mesh_model.specs.Vertices.{vertex_of_place}
use Rattle.ring_mesh.specs.Boxes.{point_box}
use Rattle.ring_mesh.proofs.Boxes.{box_begun, box_more, box_done, corners_held, no_bounds, point_held}
use Rattle.ring_mesh.proofs.bounds.bounds_of.Goals as goal

pub returns-then-is_empty : goal.returns-then-is_empty
returns-then-is_empty c =
    let none : length c.args.triangles.now ≡ 0 = search rules in
    record { value = c.no_box.ensures ∙ no_bounds c.args.vertices.now c.args.triangles.now none }

pub loop-triangle-init : goal.loop-triangle-init
loop-triangle-init c =
    let place = get_or (get_or c.args.triangles.now 0 []) 0 0 in
    let some : 0 < length c.args.triangles.now = search rules in
    let long : length (get_or c.args.triangles.now 0 []) ≡ 3 = search rules in
    let made : c.point-bounds.result ≡ point_box (vertex_of_place c.args.vertices.now place) = c.point-bounds.ensures ∙ ap point_box c.vertex_named.ensures in
    let held = point_held c.args.vertices.now c.point-bounds.result place made in
    record {
      held = record { first = held; second = held; third = held };
      made = box_begun c.args.vertices.now c.args.triangles.now [] place c.point-bounds.result some (omega (arith, long)) refl made;
    }

pub loop-triangle-preserved : goal.loop-triangle-preserved
loop-triangle-preserved c =
    let triangle = get_or c.args.triangles.now c.loop-triangle.triangle-index [] in
    let long : length triangle ≡ 3 = search rules in
    record {
      held = corners_held c.args.vertices.now c.loop-triangle.bounds c.widened_by-bounds.result triangle long c.widened_by-bounds.ensures;
      made = box_more c.args.vertices.now c.args.triangles.now c.loop-triangle.triangle-index [] c.loop-triangle.bounds c.widened_by-bounds.result (bounds_of (vertices_of c.args.vertices.now c.args.triangles.now)) c.loop-triangle-test.true c.widened_by-bounds.ensures c.loop-triangle.invariant.made;
    }

pub returns : goal.returns
returns c = record {
  value = box_done c.args.vertices.now c.args.triangles.now c.loop-triangle.triangle-index c.loop-triangle.bounds (bounds_of (vertices_of c.args.vertices.now c.args.triangles.now)) (omega arith) c.loop-triangle.invariant.made;
}
