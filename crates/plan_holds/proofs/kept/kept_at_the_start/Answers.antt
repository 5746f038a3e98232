use Rattle.plan_holds.proofs.Starts.{kept_at_the_start}
use Rattle.plan_holds.proofs.kept.kept_at_the_start.Goals as goal

pub returns : goal.returns
returns c = kept_at_the_start
