use Rattle.plan_histories.proofs.RunLaws.{runs_leave_states}
use Rattle.plan_histories.proofs.plays.runs_leave_states.Goals as goal

pub returns : goal.returns
returns c = runs_leave_states
