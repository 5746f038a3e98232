use Rattle.obj_frames.proofs.Samples.{nothing}
use Rattle.obj_frames.proofs.tests.prints_kept_parts.Goals as goal

pub actives-requires-clause-filled : goal.actives-requires-clause-filled
actives-requires-clause-filled g c = nothing
