use Rattle.plan_holds.proofs.Added.{drawn_cells}
use Rattle.plan_holds.proofs.changes.drawn_cells_are_at_home.Goals as goal

pub returns : goal.returns
returns c = drawn_cells c.tiles_are_met_by_cells.ensures
