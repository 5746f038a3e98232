-- One triangle more, and no triangle left.
use Rattle.std.proofs.Common.{arith}
use Rattle.mesh_model.specs.Mesh.{vertices_of}
use Rattle.mesh_plain.proofs.Boxes.{corners_more, corners_done}
use Rattle.mesh_plain.proofs.bounds.vertices_of.Goals as goal

pub loop-triangle-preserved : goal.loop-triangle-preserved
loop-triangle-preserved c =
    corners_more c.args.vertices.now c.args.triangles.now c.loop-triangle.triangle-index _ c.loop-triangle.found.items c.add_named.new.found.items (vertices_of c.args.vertices.now c.args.triangles.now) c.loop-triangle-test.true c.in_ok-add_named.ensures c.loop-triangle.invariant

pub returns : goal.returns
returns c = record {
  value = corners_done c.args.vertices.now c.args.triangles.now c.loop-triangle.triangle-index c.loop-triangle.found.items (vertices_of c.args.vertices.now c.args.triangles.now) (omega arith) c.loop-triangle.invariant;
}
