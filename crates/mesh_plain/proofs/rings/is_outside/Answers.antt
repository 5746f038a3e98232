-- The definition's own test.
use Rattle.std.proofs.Common.{rules}
use Rattle.mesh_plain.specs.Rings.{is_outside}
use Rattle.mesh_plain.proofs.rings.is_outside.Goals as goal

pub returns : goal.returns
unfolding is_outside
returns c = search rules
