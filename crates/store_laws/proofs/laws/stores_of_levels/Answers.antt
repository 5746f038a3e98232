use Rattle.store_laws.proofs.Terrains.{store_of_levels}
use Rattle.store_laws.proofs.laws.stores_of_levels.Goals as goal

pub returns : goal.returns
returns c =
    store_of_levels c.finest_level.ensures c.coarser_level.ensures c.predictions.ensures.even c.brought_heights.ensures.same
