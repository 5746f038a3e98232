use Rattle.book_cells.proofs.Starts.{cells_at_the_start}
use Rattle.book_cells.proofs.kept.cells_at_the_start.Goals as goal

pub returns : goal.returns
returns c = cells_at_the_start
