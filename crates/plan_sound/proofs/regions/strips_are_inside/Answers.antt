use Rattle.plan_sound.proofs.Parts.{strip_inside}
use Rattle.plan_sound.proofs.regions.strips_are_inside.Goals as goal

pub returns : goal.returns
returns c = strip_inside
