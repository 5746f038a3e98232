use Rattle.std.proofs.Common.{◌≡◌, drop}
use Rattle.std.specs.List.{fold}
use Rattle.std.specs.Int.{int_max}
use Rattle.mesh_model.specs.Mesh.{greatest}
use Rattle.mesh_plain.proofs.bounds.greatest.Given as goal

abbrev pub invariant-loop-number : goal.invariant-loop-number
invariant-loop-number l = fold int_max l.found (drop l.number-index l.numbers) ≡ greatest l.numbers
