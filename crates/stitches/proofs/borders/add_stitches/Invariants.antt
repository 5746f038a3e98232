use Rattle.std.proofs.Common.{◌-◌, drop}
use Rattle.mesh_laws.specs.Conditions.{IsBefore}
use Rattle.mesh_laws.specs.Stitches.{ring_stitches_from, all_ring_stitches}
use Rattle.stitches.specs.Adding.{IsLeft}
use Rattle.stitches.proofs.borders.add_stitches.Given as goal

abbrev pub invariant-loop-level : goal.invariant-loop-level
invariant-loop-level l = record {
  before : IsBefore l.actives l.level l.ring;
  left : IsLeft l.vertices (all_ring_stitches l.actives) (ring_stitches_from (l.level - 1) l.ring (drop l.level l.actives)) l.fn.faces.triangles.items l.fn.faces.parts.items l.faces.triangles.items l.faces.parts.items;
}
