use Rattle.std.proofs.Common.{ℤ, pos, ◌+ℤ◌, sym, ◌∙◌, arith}
use Rattle.clip_regions.proofs.Numbers.{read_back}
use Rattle.torus_grid.specs.Grids.{height_at}
use Rattle.clip_book.proofs.SeenRows.{seen_some}
use Rattle.clip_book.proofs.WholeRows.{runs, column_read, seven_long, whole_at}
use Rattle.clip_book.proofs.tiles.whole_row.Goals as goal

pub first_seven-requires : goal.first_seven-requires
first_seven-requires c =
    seven_long (λ (x : ℤ). height_at c.args.torus.now x c.args.j) c.args.i0 c.min-next.result c.row-west.result.now c.row-east.result.now
    (runs (height_at c.args.torus.now) c.args.i0 c.args.j _ _ _ _ c.min-next.result c.row-west.result.now c.row-east.result.now (read_back c.args.i0 c.ranges.i0) (read_back c.args.j c.ranges.j) (column_read c.args.i0 c.min-next.result (omega (arith, c.min-next.ensures)) c.requires.column) (read_back c.args.j c.ranges.j) c.row-west.ensures c.row-east.ensures c.min-next.ensures)

pub returns : goal.returns
returns c = λ a l.
    c.first_seven.ensures a l
    ∙ whole_at (λ (x : ℤ). height_at c.args.torus.now x c.args.j) c.args.i0 c.min-next.result c.row-west.result.now c.row-east.result.now
    (runs (height_at c.args.torus.now) c.args.i0 c.args.j _ _ _ _ c.min-next.result c.row-west.result.now c.row-east.result.now (read_back c.args.i0 c.ranges.i0) (read_back c.args.j c.ranges.j) (column_read c.args.i0 c.min-next.result (omega (arith, c.min-next.ensures)) c.requires.column) (read_back c.args.j c.ranges.j) c.row-west.ensures c.row-east.ensures c.min-next.ensures) a l
    ∙ sym (seen_some c.args.torus.now c.args.region (c.args.i0 +ℤ pos a) c.args.j (c.requires.inside a l))
