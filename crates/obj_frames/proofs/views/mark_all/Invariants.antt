use Rattle.std.proofs.Common.{◌≡◌, take, map}
use Rattle.std.specs.List.{range_with_len}
use Rattle.obj_frames.specs.Renumbering.{mark_at}
use Rattle.obj_frames.proofs.views.mark_all.Given as goal

abbrev pub invariant-loop-triangle : goal.invariant-loop-triangle
invariant-loop-triangle l = l.table.items ≡ map (mark_at (take l.triangle-index l.triangles)) (range_with_len 0 l.count)
