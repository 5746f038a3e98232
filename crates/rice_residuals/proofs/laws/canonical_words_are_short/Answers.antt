use Rattle.rice_residuals.proofs.ShortWords.{canonical_is_short}
use Rattle.rice_residuals.proofs.laws.canonical_words_are_short.Goals as goal

pub returns : goal.returns
returns c = canonical_is_short
