use Rattle.plan_holds.proofs.Steps.{histories_keep}
use Rattle.plan_holds.proofs.kept.kept_by_histories.Goals as goal

pub returns : goal.returns
returns c = histories_keep c.kept_by_each_step.ensures c.kept_at_the_start.ensures
