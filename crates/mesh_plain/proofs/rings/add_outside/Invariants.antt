use Rattle.std.proofs.Common.{◌≡◌, ◌++◌, drop}
use Rattle.std.specs.List.{filter}
use Rattle.mesh_plain.specs.Rings.{is_outside}
use Rattle.mesh_plain.proofs.rings.add_outside.Given as goal

abbrev pub invariant-loop-cell : goal.invariant-loop-cell
invariant-loop-cell l =
    l.listed.items ++ filter (is_outside l.gap) (drop l.cell-index l.cells) ≡ l.fn.listed.items ++ filter (is_outside l.gap) l.cells
