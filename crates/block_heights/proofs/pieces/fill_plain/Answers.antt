use Rattle.std.proofs.Common.{◌<◌, ◌∙◌, length, arith}
use mathlib.Core.Path.{ap₂}
use Rattle.block_heights.specs.Pieces.{within, plain_height}
use Rattle.block_heights.proofs.Cells.{same16, piece_more, cell_inside}
use Rattle.block_heights.proofs.pieces.fill_plain.Goals as goal

pub next_cell-cell-requires-clause-inside : goal.next_cell-cell-requires-clause-inside
next_cell-cell-requires-clause-inside c =
    let same = c.loop-k.auto.out in
    cell_inside c.args.cells c.loop-k.k c.loop-k.cell.i c.loop-k.cell.j c.requires.cells (omega (arith, c.requires.places)) c.loop-k.invariant.here

pub loop-k-preserved : goal.loop-k-preserved
loop-k-preserved c =
    let heights = within c.args.inside (plain_height c.args.bytes.now c.args.inside) in
    let here = c.loop-k.invariant.here in
    let same = c.loop-k.auto.out in
    let inside : c.loop-k.k < length c.loop-k.out = omega arith in
    record {
      here = c.next_cell-cell.ensures c.loop-k.k here.column here.row;
      heights =
          piece_more c.loop-k.k heights c.args.cells c.loop-k.out _ inside
          (same16 c.plain_at.result c.plain_at.type_inv ∙ c.plain_at.ensures ∙ ap₂ heights here.column here.row)
          c.loop-k.invariant.heights;
    }
