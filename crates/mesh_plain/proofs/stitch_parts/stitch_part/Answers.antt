-- The stitches are those of the definition.
use Rattle.mesh_model.specs.Parts.{stitch_part}
use Rattle.mesh_plain.proofs.stitch_parts.stitch_part.Goals as goal

pub returns : goal.returns
unfolding stitch_part
returns c = λ t. record { level = c.args.level; kind = c.args.kind; triangles = c.in_ok-triangles.ensures.value t }
