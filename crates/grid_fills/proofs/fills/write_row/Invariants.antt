use Rattle.std.proofs.Common.{◌+◌, ◌*◌}
use Rattle.terrain_model.specs.Terrain.{level_height}
use Rattle.grid_fills.specs.Filling.{IsFilledTo}
use Rattle.grid_fills.proofs.fills.write_row.Given as goal

abbrev pub invariant-loop-n : goal.invariant-loop-n
invariant-loop-n l = IsFilledTo (level_height l.grid l.level) l.cells.cells l.cells.across (l.row * l.cells.across + l.n) l.out
