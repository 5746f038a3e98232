use Rattle.active_region.proofs.Samples.{filled}
use Rattle.active_region.proofs.tests.a_finer_level_lies_a_margin_inside.Goals as goal

pub actives-drawn-requires-clause-filled : goal.actives-drawn-requires-clause-filled
actives-drawn-requires-clause-filled g c = filled
