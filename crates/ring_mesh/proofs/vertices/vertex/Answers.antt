-- The cell lies near the mosaic's corner.
use Rattle.std.proofs.Common.{sym, subst, w32}
use Rattle.std.proofs.lemmas.Int.{to_z-of_z}
use Rattle.mesh_model.specs.Height.{active_at}
use Rattle.mesh_laws.specs.Conditions.{IsNear}
use Rattle.ring_mesh.proofs.vertices.vertex.Goals as goal

pub position-requires-clause-near : goal.position-requires-clause-near
position-requires-clause-near g c =
    subst (IsNear c.args.level) (sym (to_z-of_z w32 c.args.i c.ranges.i))
    (c.actives_are_in_reach.ensures.cells c.args.actives.now c.args.level c.args.i c.args.j c.requires.heights.active c.requires.heights.low
    (c.holes_are_in_regions.ensures.contained (active_at c.args.actives.now c.args.level) c.args.i c.args.j c.requires.cell)).0

pub position-requires-2-clause-near : goal.position-requires-2-clause-near
position-requires-2-clause-near g c =
    subst (IsNear c.args.level) (sym (to_z-of_z w32 c.args.j c.ranges.j))
    (c.actives_are_in_reach.ensures.cells c.args.actives.now c.args.level c.args.i c.args.j c.requires.heights.active c.requires.heights.low
    (c.holes_are_in_regions.ensures.contained (active_at c.args.actives.now c.args.level) c.args.i c.args.j c.requires.cell)).1
