use Rattle.plan_histories.proofs.PassLaws.{publications_leave_parts}
use Rattle.plan_histories.proofs.others.publications_leave_parts.Goals as goal

pub returns : goal.returns
returns c = publications_leave_parts
