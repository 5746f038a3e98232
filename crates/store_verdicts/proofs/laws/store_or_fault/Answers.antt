use Rattle.store_verdicts.proofs.Stores.{any_store}
use Rattle.store_verdicts.proofs.laws.store_or_fault.Goals as goal

pub returns : goal.returns
returns c =
    any_store c.finest_level.ensures c.level_outside.ensures c.fronts_of_like_heights.ensures c.stores_of_levels.ensures
