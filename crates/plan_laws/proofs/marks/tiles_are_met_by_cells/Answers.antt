use Rattle.plan_laws.proofs.TileLaws.{tiles_met_by_cells}
use Rattle.plan_laws.proofs.marks.tiles_are_met_by_cells.Goals as goal

pub returns : goal.returns
returns c =
    tiles_met_by_cells c.pieces_cover_the_region.ensures c.pieces_have_cells.ensures c.pieces_lie_in_the_region.ensures c.pieces_lie_in_tiles.ensures
