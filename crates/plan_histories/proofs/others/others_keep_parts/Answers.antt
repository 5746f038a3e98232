use Rattle.plan_histories.proofs.PassLaws.{others_keep_parts}
use Rattle.plan_histories.proofs.others.others_keep_parts.Goals as goal

pub returns : goal.returns
returns c = others_keep_parts
