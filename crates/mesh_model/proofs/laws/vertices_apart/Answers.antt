-- In one level the cells differ; of two levels, the finer one's position lies in the coarser one's hole.
use Rattle.mesh_model.proofs.Apart.{apart, own_place}
use Rattle.mesh_model.proofs.laws.vertices_apart.Goals as goal

pub returns-clause-positions : goal.returns-clause-positions
returns-clause-positions c = λ terrain k e actives nested. apart terrain k e actives nested

pub returns-clause-places : goal.returns-clause-places
returns-clause-places c = λ vertices pairs p none low. own_place vertices pairs p none low
