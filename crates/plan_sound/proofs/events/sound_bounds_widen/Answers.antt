use Rattle.plan_sound.proofs.Soundness.{more}
use Rattle.plan_sound.proofs.events.sound_bounds_widen.Goals as goal

pub returns : goal.returns
returns c = more
