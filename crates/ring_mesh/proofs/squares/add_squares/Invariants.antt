use Rattle.std.proofs.Common.{◌≡◌, ◌++◌}
use Rattle.std.specs.List.{flat_map, range_with_len}
use Rattle.ring_mesh.specs.Squares.{square_row}
use Rattle.ring_mesh.proofs.squares.add_squares.Given as goal

abbrev pub invariant-loop-v : goal.invariant-loop-v
invariant-loop-v l =
    l.triangles.items ≡ l.fn.triangles.items ++ flat_map (square_row l.finer l.ring l.squares) (range_with_len 0 l.v)
