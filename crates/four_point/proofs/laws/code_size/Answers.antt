use Rattle.four_point.proofs.StepLemmas as steplemmas
use Rattle.four_point.proofs.laws.code_size.Goals as goal

pub returns : goal.returns
returns c = steplemmas.code_size
