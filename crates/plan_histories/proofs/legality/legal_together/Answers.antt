use Rattle.plan_histories.proofs.LegalLaws.{legal_together}
use Rattle.plan_histories.proofs.legality.legal_together.Goals as goal

pub returns : goal.returns
returns c = legal_together
