-- The hole of a small ring is small.
use Rattle.ring_mesh.proofs.places.place_in.Goals as goal

pub listed_before-requires-clause-hole : goal.listed_before-requires-clause-hole
listed_before-requires-clause-hole c =
    c.holes_are_in_regions.ensures.small c.args.ring.now.active c.args.ring.now.hole c.requires.ring.small c.requires.ring.cut
