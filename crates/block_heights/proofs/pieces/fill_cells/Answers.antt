use Rattle.std.proofs.Common.{◌<◌, ◌∙◌, length, rules, arith}
use mathlib.Core.Path.{ap₂}
use Rattle.std.specs.Int.{w16}
use Rattle.std.proofs.lemmas.Int.{to_z-of_z}
use mir.Val.{SFits}
use Rattle.four_point.specs.Patches.{patch_height}
use Rattle.block_heights.specs.Rows.{table_code}
use Rattle.block_heights.specs.Pieces.{within, coded_height, column_of, row_of}
use Rattle.block_heights.proofs.Cells.{piece_more, near_more, near_at, cell_inside}
use Rattle.block_heights.proofs.pieces.fill_cells.Goals as goal

pub next_cell-cell-requires-clause-inside : goal.next_cell-cell-requires-clause-inside
next_cell-cell-requires-clause-inside c =
    let same = c.loop-k.auto.out in
    cell_inside c.args.cells c.loop-k.k c.loop-k.cell.i c.loop-k.cell.j c.requires.cells (omega (arith, c.requires.places)) c.loop-k.invariant.here

pub loop-k-preserved : goal.loop-k-preserved
loop-k-preserved c =
    let a = c.in_ok-height.ensures in
    let cells = c.args.cells in
    let k = c.loop-k.k in
    let coarser = patch_height c.args.codes.patch.now in
    let step = c.args.codes.step in
    let code = table_code c.args.codes.inside c.args.codes.table.now in
    let heights = within c.args.codes.inside (coded_height coarser step code) in
    let here = c.loop-k.invariant.here in
    let cell = c.loop-k.cell in
    let same = c.loop-k.auto.out in
    let inside : k < length c.loop-k.out = omega arith in
    let fits : SFits w16 c.in_ok-height.height = search rules in
    record {
      here = c.next_cell-cell.ensures k here.column here.row;
      heights =
          piece_more k heights cells c.loop-k.out _ inside
          (to_z-of_z w16 c.in_ok-height.height fits ∙ a.height ∙ ap₂ heights here.column here.row)
          c.loop-k.invariant.heights;
      near =
          near_more k coarser step code c.args.codes.inside cells
          (near_at coarser step code c.args.codes.inside cell.i cell.j (column_of cells k) (row_of cells k) here.column here.row a.near)
          c.loop-k.invariant.near;
    }
