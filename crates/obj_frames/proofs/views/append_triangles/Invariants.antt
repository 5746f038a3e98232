use Rattle.std.proofs.Common.{◌≡◌, ◌++◌, take, map}
use Rattle.std.specs.List.{flat_map}
use Rattle.mesh_model.specs.Text.{triangle_line}
use Rattle.obj_frames.specs.Renumbering.{numbered}
use Rattle.obj_frames.proofs.views.append_triangles.Given as goal

abbrev pub invariant-loop-triangle : goal.invariant-loop-triangle
invariant-loop-triangle l =
    l.text.items ≡ l.fn.text.items ++ flat_map (λ triangle. triangle_line (map (numbered l.table) triangle)) (take l.triangle-index l.triangles)
