use Rattle.swarm_laws.proofs.Whole.{whole_shares}
use Rattle.swarm_laws.proofs.runs.whole_shares_are_runs.Goals as goal

pub returns : goal.returns
returns c = whole_shares
