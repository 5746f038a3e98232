use Rattle.std.proofs.Common.{◌*◌}
use Rattle.terrain_model.specs.Terrain.{level_height}
use Rattle.grid_fills.specs.Filling.{IsFilledTo}
use Rattle.grid_fills.proofs.fills.heights_on.Given as goal

abbrev pub invariant-loop-row : goal.invariant-loop-row
invariant-loop-row l = IsFilledTo (level_height l.grid l.level) l.cells.cells l.cells.across (l.row * l.cells.across) l.out
