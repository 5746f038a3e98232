use Rattle.store_model.proofs.ByOne.{restored_by_one_is, store_by_one}
use Rattle.store_model.proofs.laws.stores_by_one.Goals as goal

pub returns-clause-terrain : goal.returns-clause-terrain
returns-clause-terrain c = restored_by_one_is c.finest_level.ensures c.restored_heights.ensures.same

pub returns-clause-store : goal.returns-clause-store
returns-clause-store c = store_by_one c.finest_level.ensures c.restored_heights.ensures.same c.canonical_stores.ensures
