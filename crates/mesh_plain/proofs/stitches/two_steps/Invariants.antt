use Rattle.std.proofs.Common.{◌≡◌, ◌++◌, length}
use Rattle.mesh_model.specs.Parts.{stitches_along}
use Rattle.mesh_plain.proofs.stitches.two_steps.Given as goal

abbrev pub invariant-loop-rest : goal.invariant-loop-rest
invariant-loop-rest l = l.stitches.items ++ stitches_along l.rest ≡ stitches_along l.walk

abbrev pub decreases-loop-rest : goal.decreases-loop-rest
decreases-loop-rest l = length l.rest
