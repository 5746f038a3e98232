use Rattle.plan_sound.proofs.Soundness.{step_sound}
use Rattle.plan_sound.proofs.events.steps_keep_soundness.Goals as goal

pub returns : goal.returns
returns c = step_sound c.windows_have_even_corners.ensures c.actives_have_even_corners.ensures
