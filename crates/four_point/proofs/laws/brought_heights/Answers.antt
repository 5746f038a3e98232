use Rattle.four_point.proofs.StepLemmas as steplemmas
use Rattle.four_point.proofs.laws.brought_heights.Goals as goal

pub returns-clause-fits : goal.returns-clause-fits
returns-clause-fits c = steplemmas.brought_fits

pub returns-clause-same : goal.returns-clause-same
returns-clause-same c = steplemmas.brought_same
