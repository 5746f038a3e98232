use Rattle.swarm_laws.proofs.Whole.{cut_shares}
use Rattle.swarm_laws.proofs.runs.cut_shares_are_cut_runs.Goals as goal

pub returns : goal.returns
returns c = cut_shares
