-- Each place that a triangle names is that of a vertex in the box.
use Rattle.mesh_model.proofs.Counts.{held}
use Rattle.mesh_model.proofs.laws.box_holds.Goals as goal

pub returns : goal.returns
returns c = λ vertices triangles part inside named. held vertices triangles part inside named
