use Rattle.store_model.proofs.Stores.{canonical_is_store}
use Rattle.store_model.proofs.laws.canonical_stores.Goals as goal

pub returns : goal.returns
returns c =
    canonical_is_store c.canonical_blocks.ensures c.restored_terrains.ensures.terrain c.restored_terrains.ensures.levels c.canonical_words_are_short.ensures
