use Rattle.std.proofs.Common.{◌≡◌, ◌∙◌, ◌++◌, ◌∷◌, [], ℤ, List, ap, sym, arith}
use Rattle.std.specs.Int.{w16}
use Rattle.std.proofs.lemmas.Int.{to_z-of_z}
use mir.Val.{SFits}
use Rattle.store_writer.specs.Cells.{region_of}
use Rattle.store_writer.specs.Tables.{restored_in}
use Rattle.store_writer.proofs.Patches.{predictions_of}
use Rattle.store_writer.proofs.Rows.{put_more, put_none}
use Rattle.store_writer.proofs.Restored.{heights_before, heights_none, heights_more, heights_all}
use Rattle.store_writer.proofs.table.append_restored.Goals as goal

pub restored_at-requires-clause-predictions : goal.restored_at-requires-clause-predictions
restored_at-requires-clause-predictions g c =
    predictions_of c.patch_of-patch.result c.predict_block-predicted.result.patch.now (g.C.Heights.heights c.args.coarser.now) (sym c.predict_block-predicted.ensures) c.patch_of-patch.ensures.predictions

pub loop-n-init : goal.loop-n-init
loop-n-init g c =
    let H = restored_in (g.C.Heights.heights c.args.coarser.now) (g.F.Heights.heights c.args.finer.now) c.args.step (region_of c.args.cells) in
    put_none c.args.out.now.items _ (heights_none H c.args.cells.x0 c.args.cells.y0)

pub loop-n-preserved : goal.loop-n-preserved
loop-n-preserved g c =
    let H = restored_in (g.C.Heights.heights c.args.coarser.now) (g.F.Heights.heights c.args.finer.now) c.args.step (region_of c.args.cells) in
    let fits : SFits w16 c.restored_at.result = record { sfits = c.restored_at.type_inv } in
    put_more c.args.out.now.items (heights_before H c.args.cells.x0 c.args.cells.y0 c.loop-n.n) _ _ c.loop-n.out.items _ c.loop-n.invariant
    (c.in_ok-push_height.ensures ∙ ap (λ (h : ℤ). c.loop-n.out.items ++ h ∷ []) (to_z-of_z w16 c.restored_at.result fits ∙ c.restored_at.ensures))
    (heights_more H c.args.cells.x0 c.args.cells.y0 c.loop-n.n)

pub returns : goal.returns
returns g c =
    let H = restored_in (g.C.Heights.heights c.args.coarser.now) (g.F.Heights.heights c.args.finer.now) c.args.step (region_of c.args.cells) in
    let whole : c.loop-n.n ≡ 64 = omega arith in
    c.loop-n.invariant
    ∙ ap (λ (xs : List ℤ). c.args.out.now.items ++ xs) (ap (heights_before H c.args.cells.x0 c.args.cells.y0) whole ∙ heights_all H c.args.cells.x0 c.args.cells.y0)
