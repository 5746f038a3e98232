use Rattle.std.proofs.Common.{◌∙◌, ◌++◌, ℕ, List, pos, ap}
use Rattle.store_writer.specs.Entries.{row_heights}
use Rattle.store_writer.proofs.Heights.{row_more, row_none}
use Rattle.store_writer.proofs.Rows.{put_more, put_none}
use Rattle.store_writer.proofs.block.append_row.Goals as goal

pub loop-a-init : goal.loop-a-init
loop-a-init g c =
    let F = g.F.Heights.heights c.args.finer.now in
    put_none c.args.out.now.items _ (row_none F (pos c.args.cells.x0) (pos c.args.j))

pub loop-a-preserved : goal.loop-a-preserved
loop-a-preserved g c =
    let F = g.F.Heights.heights c.args.finer.now in
    put_more c.args.out.now.items (row_heights F (pos c.args.cells.x0) (pos c.args.j) c.loop-a.a) _ _ c.loop-a.out.items _ c.loop-a.invariant
    (c.in_ok-append.ensures ∙ ap (λ (xs : List ℕ). c.loop-a.out.items ++ xs) c.bytes_at.ensures)
    (row_more F (pos c.args.cells.x0) (pos c.args.j) c.loop-a.a)
