use Rattle.std.proofs.Common.{length, refl}
use Rattle.rice_residuals.proofs.FirstFault.{one_fault, word_has_no_fault}
use Rattle.rice_residuals.proofs.laws.one_fault_of_other_bytes.Goals as goal

pub returns-clause-word : goal.returns-clause-word
returns-clause-word c = λ bytes xs fault word bad. word_has_no_fault (length xs) bytes xs fault refl word bad

pub returns-clause-first : goal.returns-clause-first
returns-clause-first c = λ bytes count fault other p q. one_fault count bytes fault other p q
