-- Sides of 2 or more leave room on each side of a hole, and for a stitch on each side of a border.
use Rattle.mesh_laws.proofs.Filled.{mesh_filled}
use Rattle.mesh_laws.proofs.laws.parts_have_triangles.Goals as goal

pub returns : goal.returns
returns c = mesh_filled
