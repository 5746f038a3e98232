use Rattle.plan_sound.proofs.Soundness.{frame_near}
use Rattle.plan_sound.proofs.regions.actives_are_near.Goals as goal

pub returns : goal.returns
returns c = frame_near
