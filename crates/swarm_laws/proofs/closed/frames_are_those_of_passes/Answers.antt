use Rattle.swarm_laws.proofs.Frames.{frames_of_passes}
use Rattle.swarm_laws.proofs.closed.frames_are_those_of_passes.Goals as goal

pub returns : goal.returns
returns c = frames_of_passes
