use Rattle.store_verdicts.proofs.Words.{any_word}
use Rattle.store_verdicts.proofs.laws.word_or_fault.Goals as goal

pub returns : goal.returns
returns c = any_word
