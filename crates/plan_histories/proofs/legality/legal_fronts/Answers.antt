use Rattle.plan_histories.proofs.LegalLaws.{legal_fronts}
use Rattle.plan_histories.proofs.legality.legal_fronts.Goals as goal

pub returns : goal.returns
returns c = legal_fronts
