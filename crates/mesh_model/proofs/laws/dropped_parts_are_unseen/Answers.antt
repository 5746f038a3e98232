-- By a half-space that drops the part's box.
use Rattle.mesh_model.proofs.Outside.{dropped, unseen}
use Rattle.mesh_model.proofs.laws.dropped_parts_are_unseen.Goals as goal

pub returns-clause-outside : goal.returns-clause-outside
returns-clause-outside c = dropped

pub returns-clause-unseen : goal.returns-clause-unseen
returns-clause-unseen c = unseen
