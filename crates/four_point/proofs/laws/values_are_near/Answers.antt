use Rattle.four_point.proofs.StepLemmas as steplemmas
use Rattle.four_point.proofs.laws.values_are_near.Goals as goal

pub returns-clause-value : goal.returns-clause-value
returns-clause-value c = steplemmas.value_within_half

pub returns-clause-near : goal.returns-clause-near
returns-clause-near c = steplemmas.within_half_is_near

pub returns-clause-brought : goal.returns-clause-brought
returns-clause-brought c = steplemmas.brought_within_half
