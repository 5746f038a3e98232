use Rattle.plan_histories.proofs.PassLaws.{entries_of_others_leave_parts}
use Rattle.plan_histories.proofs.others.entries_of_others_leave_parts.Goals as goal

pub returns : goal.returns
returns c = entries_of_others_leave_parts
