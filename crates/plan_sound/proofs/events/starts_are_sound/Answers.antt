use Rattle.plan_sound.proofs.Soundness.{start_sound}
use Rattle.plan_sound.proofs.events.starts_are_sound.Goals as goal

pub returns : goal.returns
returns c = start_sound
