use Rattle.plan_histories.proofs.LegalLaws.{legal_with_one_more}
use Rattle.plan_histories.proofs.legality.legal_with_one_more.Goals as goal

pub returns : goal.returns
returns c = legal_with_one_more
