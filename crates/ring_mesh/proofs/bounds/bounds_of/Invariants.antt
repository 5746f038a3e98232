use Rattle.std.proofs.Common.{◌≡◌, drop}
use Rattle.mesh_model.specs.Mesh.{vertices_of, bounds_of}
use Rattle.ring_mesh.specs.Boxes.{widest, HoldsCorners}
use Rattle.ring_mesh.proofs.bounds.bounds_of.Given as goal

abbrev pub invariant-loop-triangle : goal.invariant-loop-triangle
invariant-loop-triangle l = record {
  held : HoldsCorners l.bounds l.vertices l.before;
  made : widest l.bounds (vertices_of l.vertices (drop l.triangle-index l.triangles)) ≡ bounds_of (vertices_of l.vertices l.triangles);
}
