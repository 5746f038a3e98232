use Rattle.std.proofs.Common.{refl, decimal}
use Rattle.number_words.proofs.Spelling.{natural_of_text}
use Rattle.number_words.proofs.laws.natural_texts_are_read.Goals as goal

pub returns : goal.returns
returns c = λ low high n small above below. natural_of_text low high (decimal n) n small above below refl
