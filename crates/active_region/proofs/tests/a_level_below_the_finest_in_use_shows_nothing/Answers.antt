use Rattle.active_region.proofs.Samples.{filled}
use Rattle.active_region.proofs.tests.a_level_below_the_finest_in_use_shows_nothing.Goals as goal

pub actives-drawn-requires-clause-filled : goal.actives-drawn-requires-clause-filled
actives-drawn-requires-clause-filled g c = filled

pub actives-requires-clause-filled : goal.actives-requires-clause-filled
actives-requires-clause-filled g c = filled
