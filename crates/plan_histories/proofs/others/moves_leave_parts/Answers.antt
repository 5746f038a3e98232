use Rattle.plan_histories.proofs.PassLaws.{moves_leave_parts}
use Rattle.plan_histories.proofs.others.moves_leave_parts.Goals as goal

pub returns : goal.returns
returns c = moves_leave_parts
