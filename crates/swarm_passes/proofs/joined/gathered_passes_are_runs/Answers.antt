use Rattle.swarm_passes.proofs.Finished.{runs_of_all}
use Rattle.swarm_passes.proofs.joined.gathered_passes_are_runs.Goals as goal

pub returns : goal.returns
returns c = runs_of_all
