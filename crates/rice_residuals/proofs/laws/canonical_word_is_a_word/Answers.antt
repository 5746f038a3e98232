use Rattle.rice_residuals.proofs.Best.{best_is_best, canonical_is_word, canonical_is_shortest}
use Rattle.rice_residuals.proofs.laws.canonical_word_is_a_word.Goals as goal

pub returns-clause-word : goal.returns-clause-word
returns-clause-word c = canonical_is_word

pub returns-clause-fewest : goal.returns-clause-fewest
returns-clause-fewest c = λ xs r below. (best_is_best xs).fewest r below

pub returns-clause-least : goal.returns-clause-least
returns-clause-least c = λ xs r below. (best_is_best xs).first r below

pub returns-clause-shortest : goal.returns-clause-shortest
returns-clause-shortest c = λ xs bytes word. canonical_is_shortest xs word.0 bytes word.1
