use Rattle.torus_grid.proofs.Written.{RowSoFar}
use Rattle.torus_grid.proofs.tile.write_row.Given as goal

abbrev pub invariant-loop-n : goal.invariant-loop-n
invariant-loop-n l = RowSoFar l.to l.from l.n l.initial.tile l.heights l.tile
