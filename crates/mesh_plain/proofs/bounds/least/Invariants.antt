use Rattle.std.proofs.Common.{◌≡◌, drop}
use Rattle.std.specs.List.{fold}
use Rattle.std.specs.Int.{int_min}
use Rattle.mesh_model.specs.Mesh.{least}
use Rattle.mesh_plain.proofs.bounds.least.Given as goal

abbrev pub invariant-loop-number : goal.invariant-loop-number
invariant-loop-number l = fold int_min l.found (drop l.number-index l.numbers) ≡ least l.numbers
