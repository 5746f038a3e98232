-- Ring by ring, by the place of each corner.
use Rattle.mesh_laws.proofs.Squares.{square_parts_same}
use Rattle.mesh_laws.proofs.laws.ring_parts_are_square_parts.Goals as goal

pub returns : goal.returns
returns c = λ terrain k e actives margin shapes nested.
    square_parts_same terrain k e actives margin shapes nested c.vertices_apart.ensures.positions c.vertices_apart.ensures.places
