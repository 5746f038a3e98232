-- Each corner of a triangle is a cell of an active region, where a vertex stands.
use Rattle.mesh_model.proofs.Named.{names}
use Rattle.mesh_model.proofs.laws.nested_names.Goals as goal

pub returns : goal.returns
returns c = λ terrain k e actives shapes nested. names terrain k e actives shapes nested
