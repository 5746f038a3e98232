-- No place is marked at first, and each triangle marks its own.
use Rattle.std.proofs.Common.{[], ◌∙◌, ap, length, take, rules, arith}
use Rattle.std.proofs.lemmas.List.FromFn.{length-map-range_with_len}
use Rattle.obj_frames.specs.Renumbering.{mark_at}
use Rattle.obj_frames.proofs.Renumbered.{marks_more, no_marks}
use Rattle.obj_frames.proofs.views.mark_all.Goals as goal

pub loop-triangle-init : goal.loop-triangle-init
loop-triangle-init c = c.in_ok-table.ensures.items_if_clones_equal (search rules) ∙ no_marks c.args.count

pub loop-triangle-preserved : goal.loop-triangle-preserved
loop-triangle-preserved c =
    marks_more c.args.triangles.now c.args.count c.loop-triangle.triangle-index [] c.loop-triangle.table.items c.mark.new.table.items (omega arith) c.loop-triangle.invariant c.mark.ensures

pub mark-requires : goal.mark-requires
mark-requires c = λ k d low.
    omega (arith, c.requires c.loop-triangle.triangle-index [] (omega arith) k d low, ap length c.loop-triangle.invariant, length-map-range_with_len (mark_at (take c.loop-triangle.triangle-index c.args.triangles.now)) 0 c.args.count)
