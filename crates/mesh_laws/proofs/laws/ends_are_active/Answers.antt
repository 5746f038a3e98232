-- The ends lie in half of the region, and this in the coarser one.
use Rattle.mesh_model.specs.Height.{active_at}
use Rattle.mesh_laws.proofs.Ends.{lower_there, upper_there}
use Rattle.mesh_laws.proofs.Sizes.{contained}
use Rattle.mesh_laws.proofs.laws.ends_are_active.Goals as goal

pub returns-clause-lower : goal.returns-clause-lower
returns-clause-lower c = λ actives level i j drawn low there. lower_there actives level i j drawn low (contained (active_at actives level) i j there)

pub returns-clause-upper : goal.returns-clause-upper
returns-clause-upper c = λ actives level i j drawn low there. upper_there actives level i j drawn low (contained (active_at actives level) i j there)
