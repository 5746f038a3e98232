use Rattle.plan_sound.proofs.Soundness.{frame_sound}
use Rattle.plan_sound.proofs.regions.frames_are_sound.Goals as goal

pub returns : goal.returns
returns c = frame_sound c.actives_have_even_corners.ensures
