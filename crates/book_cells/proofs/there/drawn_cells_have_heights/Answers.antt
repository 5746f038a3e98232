use Rattle.book_cells.proofs.Claims.{drawn_cells_have_heights}
use Rattle.book_cells.proofs.there.drawn_cells_have_heights.Goals as goal

pub returns : goal.returns
returns c = drawn_cells_have_heights c.blocks_have_one_tile.ensures c.drawn_cells_are_at_home.ensures
