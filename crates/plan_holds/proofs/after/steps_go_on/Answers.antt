use Rattle.plan_holds.proofs.Growth.{steps_go_on}
use Rattle.plan_holds.proofs.after.steps_go_on.Goals as goal

pub returns : goal.returns
returns c = steps_go_on
