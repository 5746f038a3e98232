use Rattle.plan_histories.proofs.RunLaws.{legal_histories_are_runs}
use Rattle.plan_histories.proofs.plays.legal_histories_are_runs.Goals as goal

pub returns : goal.returns
returns c = legal_histories_are_runs
