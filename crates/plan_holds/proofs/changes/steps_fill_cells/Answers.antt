use Rattle.plan_holds.proofs.Added.{cells_filled}
use Rattle.plan_holds.proofs.changes.steps_fill_cells.Goals as goal

pub returns : goal.returns
returns c =
    cells_filled (record {
      fit = c.windows_fit_the_torus.ensures;
      one_tile = c.blocks_have_one_tile.ensures;
      strips = c.strips_cover_the_window.ensures;
      pieces = c.pieces_cover_the_region.ensures;
      grows = c.strips_grow_rectangles.ensures;
      in_region = c.pieces_lie_in_the_region.ensures;
      in_blocks = c.pieces_lie_in_blocks.ensures;
      one_block = c.pieces_of_one_block_are_one.ensures;
      found = c.finished_pieces_are_found.ensures;
      tiles = c.tiles_are_met_by_cells.ensures;
    })
