use Rattle.std.proofs.Common.{◌≡◌, pos, map, replicate, Some}
use Rattle.torus_grid.specs.Shown.{shown}
use Rattle.torus_grid.proofs.torus.flat_tiles.Given as goal

abbrev pub invariant-loop-n : goal.invariant-loop-n
invariant-loop-n l = map shown l.tiles.items ≡ replicate l._n (Some (replicate 64 (pos 0)))
