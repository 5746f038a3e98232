use Rattle.plan_sound.proofs.Sizes.{sizes_kept}
use Rattle.plan_sound.proofs.events.sizes_are_kept.Goals as goal

pub returns : goal.returns
returns c = sizes_kept
