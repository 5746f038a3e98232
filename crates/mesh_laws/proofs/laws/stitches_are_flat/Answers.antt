-- Level by level, along the border of its active region.
use Rattle.mesh_laws.proofs.Flat.{flat_where_drawn}
use Rattle.mesh_laws.proofs.laws.stitches_are_flat.Goals as goal

pub returns : goal.returns
returns c = λ terrain k actives size drawn.
    flat_where_drawn terrain k actives size drawn c.vertices_apart.ensures.positions c.vertices_apart.ensures.places
