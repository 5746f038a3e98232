use Rattle.std.proofs.Common.{◌≡◌, replicate}
use Rattle.torus_grid.specs.Grids.{new_grid}
use Rattle.clip_book.proofs.tiles.start_grids.Given as goal

abbrev pub invariant-made : goal.invariant-made
invariant-made l = l.grids.items ≡ replicate l.counter (new_grid l.fn.k)
