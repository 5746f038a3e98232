use Rattle.book_cells.proofs.States.{cells_come_home}
use Rattle.book_cells.proofs.kept.cells_come_home.Goals as goal

pub returns : goal.returns
returns c = cells_come_home c.steps_go_on.ensures c.steps_fill_cells.ensures c.steps_begin_frames.ensures c.others_keep_parts.ensures c.blocks_have_one_tile.ensures c.places_in_tiles_are_places.ensures
