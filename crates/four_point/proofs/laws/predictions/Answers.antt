use Rattle.four_point.proofs.AroundLemmas as aroundlemmas
use Rattle.four_point.proofs.LawLemmas as lawlemmas
use Rattle.four_point.proofs.laws.predictions.Goals as goal

pub returns-clause-even : goal.returns-clause-even
returns-clause-even c = lawlemmas.even_prediction

pub returns-clause-patch : goal.returns-clause-patch
returns-clause-patch c = aroundlemmas.prediction_same
