use Rattle.torus_grid.proofs.TilesAt.{has_by_row, has_by_none}
use Rattle.torus_grid.proofs.torus.has_tile.Goals as goal

pub returns-then-tile-side : goal.returns-then-tile-side
returns-then-tile-side c =
    has_by_row c.args.k c.tiles_per_side-side.result c.args.tile c.tiles_per_side-side.ensures.value c.if-tile-side.true

pub returns-else-tile-side : goal.returns-else-tile-side
returns-else-tile-side c =
    has_by_none c.args.k c.tiles_per_side-side.result c.args.tile c.tiles_per_side-side.ensures.value c.if-tile-side.false
