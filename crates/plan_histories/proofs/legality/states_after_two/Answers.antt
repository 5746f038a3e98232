use Rattle.plan_histories.proofs.LegalLaws.{states_after_two}
use Rattle.plan_histories.proofs.legality.states_after_two.Goals as goal

pub returns : goal.returns
returns c = states_after_two
