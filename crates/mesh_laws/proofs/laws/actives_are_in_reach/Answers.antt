-- A region lies in a window, and this near its viewer; its cells lie in the region.
use Rattle.mesh_laws.proofs.Reaches.{reach_of, near_of}
use Rattle.mesh_laws.proofs.laws.actives_are_in_reach.Goals as goal

pub returns-clause-regions : goal.returns-clause-regions
returns-clause-regions c = λ actives level drawn low. reach_of actives level drawn low

pub returns-clause-cells : goal.returns-clause-cells
returns-clause-cells c = λ actives level i j drawn low there. near_of actives level i j drawn low there
