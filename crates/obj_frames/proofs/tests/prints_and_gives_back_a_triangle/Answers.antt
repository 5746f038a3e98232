use Rattle.obj_frames.proofs.Samples.{whole}
use Rattle.obj_frames.proofs.tests.prints_and_gives_back_a_triangle.Goals as goal

pub actives-requires-clause-filled : goal.actives-requires-clause-filled
actives-requires-clause-filled g c = whole
