use Rattle.plan_sound.proofs.Soundness.{offers_there}
use Rattle.plan_sound.proofs.regions.offers_are_there.Goals as goal

pub returns : goal.returns
returns c = offers_there
