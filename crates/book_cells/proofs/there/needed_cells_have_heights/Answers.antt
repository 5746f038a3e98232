use Rattle.book_cells.proofs.Claims.{needed_cells_have_heights}
use Rattle.book_cells.proofs.there.needed_cells_have_heights.Goals as goal

pub returns : goal.returns
returns c = needed_cells_have_heights (record {
  one_tile = c.blocks_have_one_tile.ensures;
  monotone = c.needs_are_monotone.ensures;
  have_cells = c.pieces_have_cells.ensures;
  in_region = c.pieces_lie_in_the_region.ensures;
  tiles = c.tiles_are_met_by_cells.ensures;
})
