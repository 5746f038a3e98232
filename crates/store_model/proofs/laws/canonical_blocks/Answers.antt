use Rattle.store_model.proofs.Canonical.{canonical_word_block}
use Rattle.store_model.proofs.laws.canonical_blocks.Goals as goal

pub returns : goal.returns
returns c =
    canonical_word_block c.predictions.ensures.even c.values_are_near.ensures.value c.values_are_near.ensures.near c.brought_heights.ensures.fits c.brought_heights.ensures.same c.code_size.ensures
    c.canonical_word_is_a_word.ensures.word
