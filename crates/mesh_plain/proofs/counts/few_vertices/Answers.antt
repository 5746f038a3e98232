-- Regions that are drawn can be active.
use Rattle.mesh_plain.proofs.Spread.{all_active}
use Rattle.mesh_plain.proofs.counts.few_vertices.Goals as goal

pub listed_vertices-requires-clause-actives : goal.listed_vertices-requires-clause-actives
listed_vertices-requires-clause-actives c = all_active 0 c.args.actives.now c.requires.drawn
