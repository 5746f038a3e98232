use Rattle.clip_regions.specs.FloorDivision.{floor_rem}
use Rattle.torus_grid.proofs.Written.{RowsWritten}
use Rattle.torus_grid.proofs.tile.write_cells.Given as goal

abbrev pub invariant-loop-row : goal.invariant-loop-row
invariant-loop-row l =
    RowsWritten (floor_rem l.fn.cells.x0 8) (floor_rem l.fn.cells.y0 8) l.width l.row l.initial.tile l.heights l.tile
