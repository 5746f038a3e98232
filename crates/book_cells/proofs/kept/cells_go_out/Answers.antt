use Rattle.book_cells.proofs.States.{cells_go_out}
use Rattle.book_cells.proofs.kept.cells_go_out.Goals as goal

pub returns : goal.returns
returns c = cells_go_out c.steps_go_on.ensures c.steps_fill_cells.ensures c.steps_begin_frames.ensures c.others_keep_parts.ensures c.claims_give_jobs.ensures
