-- A mean of heights of 16 bits, with weights that make 32.
use Rattle.mesh_laws.proofs.Heights.{height_at_most}
use Rattle.mesh_laws.proofs.laws.heights_are_small.Goals as goal

pub returns : goal.returns
returns c = λ terrain k actives level i j is size there. height_at_most terrain k actives level i j is size there
