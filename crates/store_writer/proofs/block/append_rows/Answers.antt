use Rattle.std.proofs.Common.{◌≡◌, ◌∙◌, ◌++◌, ℕ, ap, sym, arith}
use Rattle.store_writer.specs.Entries.{rows_heights}
use Rattle.store_writer.specs.Cells.{region_of}
use Rattle.store_writer.proofs.Blocks.{rows_of}
use Rattle.store_writer.proofs.Heights.{rows_more, rows_none}
use Rattle.store_writer.proofs.Rows.{put_more, put_none}
use Rattle.store_writer.proofs.block.append_rows.Goals as goal

pub loop-b-init : goal.loop-b-init
loop-b-init g c =
    let F = g.F.Heights.heights c.args.finer.now in
    put_none c.args.out.now.items _ (rows_none F (region_of c.args.cells))

pub loop-b-preserved : goal.loop-b-preserved
loop-b-preserved g c =
    let F = g.F.Heights.heights c.args.finer.now in
    put_more c.args.out.now.items (rows_heights F (region_of c.args.cells) c.loop-b.b) _ _ c.loop-b.out.items _ c.loop-b.invariant
    c.in_ok-append_row.ensures
    (rows_more F c.args.cells c.loop-b.b c.requires.some_columns)

pub returns : goal.returns
returns g c =
    let F = g.F.Heights.heights c.args.finer.now in
    let whole : c.loop-b.b ≡ c.args.cells.rows = omega arith in
    c.loop-b.invariant
    ∙ ap (λ (n : ℕ). c.args.out.now.items ++ rows_heights F (region_of c.args.cells) n) (whole ∙ sym (rows_of c.args.cells c.requires.some_rows))
