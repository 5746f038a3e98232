use Rattle.active_region.proofs.Samples.{narrow}
use Rattle.active_region.proofs.tests.a_narrow_coarser_level_hides_the_finer.Goals as goal

pub actives-drawn-requires-clause-filled : goal.actives-drawn-requires-clause-filled
actives-drawn-requires-clause-filled g c = narrow
