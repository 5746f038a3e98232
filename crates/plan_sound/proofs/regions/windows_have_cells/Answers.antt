use Rattle.plan_sound.proofs.Placed.{window_inside}
use Rattle.plan_sound.proofs.regions.windows_have_cells.Goals as goal

pub returns : goal.returns
returns c = window_inside
