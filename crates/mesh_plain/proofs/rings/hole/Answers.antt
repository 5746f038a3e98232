-- The two cases of the definition.
use Rattle.std.proofs.Common.{rules}
use Rattle.mesh_model.specs.Vertices.{hole}
use Rattle.mesh_plain.proofs.rings.hole.Goals as goal

pub returns-then-is_empty : goal.returns-then-is_empty
unfolding hole
returns-then-is_empty c = record { value = search rules }

pub returns-else-is_empty : goal.returns-else-is_empty
unfolding hole
returns-else-is_empty c = record { value = search rules }
