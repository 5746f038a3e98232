use Rattle.rice_residuals.proofs.FirstFault.{one_list}
use Rattle.rice_residuals.proofs.laws.one_list_of_a_word.Goals as goal

pub returns : goal.returns
returns c = one_list
