-- The power fits.
use Rattle.mesh_plain.proofs.Nears.{reach_is}
use Rattle.mesh_plain.proofs.frames.reach.Goals as goal

pub returns : goal.returns
returns c = reach_is c.args.level
