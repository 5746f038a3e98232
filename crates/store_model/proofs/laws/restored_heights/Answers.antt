use Rattle.store_model.proofs.Restoring.{restored_within, restored_by_one}
use Rattle.store_model.proofs.laws.restored_heights.Goals as goal

pub returns-clause-near : goal.returns-clause-near
returns-clause-near c =
    restored_within c.coarser_level.ensures c.values_are_near.ensures.value c.values_are_near.ensures.brought

pub returns-clause-same : goal.returns-clause-same
returns-clause-same c =
    restored_by_one c.coarser_level.ensures c.values_are_near.ensures.value c.values_are_near.ensures.brought
