use Rattle.torus_grid.proofs.PlaceLaws.{cells_in_rows}
use Rattle.torus_grid.proofs.laws.cells_stand_in_rows.Goals as goal

pub returns : goal.returns
returns c = cells_in_rows
