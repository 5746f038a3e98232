-- The corners are those of the definition.
use Rattle.std.proofs.Common.{rules}
use Rattle.mesh_model.specs.Parts.{square_triangles}
use Rattle.mesh_plain.proofs.triangles.square_triangles.Goals as goal

pub returns : goal.returns
unfolding square_triangles
returns c = record { value = search rules }
