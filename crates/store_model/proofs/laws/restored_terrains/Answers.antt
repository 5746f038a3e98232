use Rattle.store_model.proofs.RestoredLevels.{restored_is_terrain, restored_levels}
use Rattle.store_model.proofs.laws.restored_terrains.Goals as goal

pub returns-clause-terrain : goal.returns-clause-terrain
returns-clause-terrain c = restored_is_terrain c.brought_heights.ensures.fits

pub returns-clause-levels : goal.returns-clause-levels
returns-clause-levels c = restored_levels c.finest_level.ensures c.coarser_level.ensures c.brought_heights.ensures.fits
