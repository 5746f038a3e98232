use Rattle.plan_histories.proofs.PassLaws.{passes_are_kept}
use Rattle.plan_histories.proofs.others.passes_are_kept.Goals as goal

pub returns : goal.returns
returns c = passes_are_kept
