-- Level by level: the edges of squares, and those of stitches along walks.
use Rattle.watertight_laws.proofs.Levels.{counted}
use Rattle.watertight_laws.proofs.laws.edges_are_counted.Goals as goal

pub returns : goal.returns
returns c = λ terrain k e actives a b shapes wide nested low low' other.
    counted c.parts_have_ring_squares.ensures.squares c.vertices_apart.ensures.positions c.vertices_apart.ensures.places terrain k e actives a b shapes wide nested low low' other
