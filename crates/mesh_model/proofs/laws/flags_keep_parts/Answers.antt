-- Part by part.
use Rattle.mesh_model.proofs.Outside.{flags_keep}
use Rattle.mesh_model.proofs.laws.flags_keep_parts.Goals as goal

pub returns : goal.returns
returns c = flags_keep
