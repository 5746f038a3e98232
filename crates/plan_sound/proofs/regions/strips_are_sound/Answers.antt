use Rattle.plan_sound.proofs.Soundness.{strip_there}
use Rattle.plan_sound.proofs.regions.strips_are_sound.Goals as goal

pub returns : goal.returns
returns c = strip_there
