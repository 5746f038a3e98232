use Rattle.plan_laws.proofs.SideLaws.{tiles_met_by_sides}
use Rattle.plan_laws.proofs.marks.tiles_are_met_by_sides.Goals as goal

pub returns : goal.returns
returns c = tiles_met_by_sides
