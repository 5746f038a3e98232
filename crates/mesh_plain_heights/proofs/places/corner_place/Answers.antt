-- The position that was computed is that of the definition.
use Rattle.std.proofs.Common.{rules}
use Rattle.mesh_model.specs.Parts.{corner_place}
use Rattle.mesh_plain_heights.proofs.places.corner_place.Goals as goal

pub returns : goal.returns
unfolding corner_place
returns c = record { value = search rules }
