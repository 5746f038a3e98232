use Rattle.std.proofs.Common.{◌≡◌, ◌++◌, map}
use Rattle.std.specs.List.{range_with_len}
use Rattle.stitches.specs.Sides.{stitch_after}
use Rattle.stitches.proofs.sides.add_walk.Given as goal

abbrev pub invariant-loop-s : goal.invariant-loop-s
invariant-loop-s l = l.triangles.items ≡ l.fn.triangles.items ++ map (stitch_after l.ring l.side) (range_with_len 0 l.s)
