use Rattle.book_cells.proofs.States.{cells_stay}
use Rattle.book_cells.proofs.kept.cells_stay.Goals as goal

pub returns : goal.returns
returns c = cells_stay c.steps_go_on.ensures c.steps_fill_cells.ensures c.steps_begin_frames.ensures c.others_keep_parts.ensures c.moves_leave_parts.ensures c.publications_leave_parts.ensures
