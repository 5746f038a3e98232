-- By going through the parts.
use Rattle.mesh_model.proofs.Whole.{covered, bounded}
use Rattle.mesh_model.proofs.laws.parts_of_mesh.Goals as goal

pub returns-clause-cover : goal.returns-clause-cover
returns-clause-cover c = λ vertices parts. covered vertices parts

pub returns-clause-bounds : goal.returns-clause-bounds
returns-clause-bounds c = λ vertices parts named. bounded vertices parts named
