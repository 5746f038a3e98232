-- Ring by ring, by the place of each cell on its border.
use Rattle.mesh_laws.proofs.Borders.{stitch_parts_same}
use Rattle.mesh_laws.proofs.laws.ring_stitches_are_stitch_parts.Goals as goal

pub returns : goal.returns
returns c = λ terrain k e actives margin nested.
    stitch_parts_same terrain k e actives margin nested c.vertices_apart.ensures.positions c.vertices_apart.ensures.places
