use Rattle.std.proofs.Common.{◌≡◌, ◌++◌, map}
use Rattle.std.specs.List.{range_with_len}
use Rattle.mesh_plain.specs.Cells.{cell_in}
use Rattle.mesh_plain.proofs.cells.add_row.Given as goal

abbrev pub invariant-loop-u : goal.invariant-loop-u
invariant-loop-u l = l.cells.items ≡ l.fn.cells.items ++ map (cell_in l.level l.region l.v) (range_with_len 0 l.u)
