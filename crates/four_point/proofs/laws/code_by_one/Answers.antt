use Rattle.four_point.proofs.StepLemmas as steplemmas
use Rattle.four_point.proofs.laws.code_by_one.Goals as goal

pub returns : goal.returns
returns c = steplemmas.code_by_one
