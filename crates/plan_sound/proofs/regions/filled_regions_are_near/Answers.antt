use Rattle.plan_sound.proofs.Soundness.{filled_near}
use Rattle.plan_sound.proofs.regions.filled_regions_are_near.Goals as goal

pub returns : goal.returns
returns c = filled_near
