use Rattle.strip_planner.proofs.PlannedRegions.{regions_in_windows_are_planned}
use Rattle.strip_planner.proofs.strip_pieces.regions_in_windows_are_planned.Goals as goal

pub returns : goal.returns
returns c = regions_in_windows_are_planned c.windows_are_near.ensures c.inside_is_held.ensures
