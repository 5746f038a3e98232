use Rattle.std.proofs.Common.{map, drop}
use Rattle.mesh_laws.specs.Stitches.{ring_stitches}
use Rattle.stitches.specs.Adding.{IsLeft}
use Rattle.stitches.specs.Sides.{side_part}
use Rattle.stitches.proofs.borders.add_sides.Given as goal

abbrev pub invariant-loop-side : goal.invariant-loop-side
invariant-loop-side l =
    IsLeft l.vertices (ring_stitches l.level l.ring) (map (side_part l.level l.ring) (drop l.side-index l.side-items)) l.fn.faces.triangles.items l.fn.faces.parts.items l.faces.triangles.items l.faces.parts.items
