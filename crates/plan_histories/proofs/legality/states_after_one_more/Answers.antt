use Rattle.plan_histories.proofs.LegalLaws.{states_after_one_more}
use Rattle.plan_histories.proofs.legality.states_after_one_more.Goals as goal

pub returns : goal.returns
returns c = states_after_one_more
