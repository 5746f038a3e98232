use Rattle.plan_sound.proofs.Placed.{window_within}
use Rattle.plan_sound.proofs.regions.windows_are_near.Goals as goal

pub returns : goal.returns
returns c = window_within
