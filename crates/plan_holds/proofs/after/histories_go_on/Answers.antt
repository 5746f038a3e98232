use Rattle.plan_holds.proofs.Growth.{histories_go_on}
use Rattle.plan_holds.proofs.after.histories_go_on.Goals as goal

pub returns : goal.returns
returns c = histories_go_on c.steps_go_on.ensures
