-- Each square lies in the region, and one square more is the row up to the next column.
use Rattle.std.proofs.Common.{rules, arith, subst, sym, append_assoc}
use Rattle.mesh_plain_heights.specs.Placed.{IsSquarePlaced}
use Rattle.mesh_plain.specs.Strips.{strip_square}
use Rattle.mesh_plain.proofs.Between.{square_placed}
use Rattle.mesh_plain.proofs.Grids.{rows_more}
use Rattle.mesh_plain.proofs.triangles.add_strip.Goals as goal

pub add_square-requires-clause-square : goal.add_square-requires-clause-square
add_square-requires-clause-square c =
    subst IsSquarePlaced (sym c.cell_at.ensures)
    (square_placed c.args.level c.args.squares.now c.args.v c.loop-u.u c.requires.placed (omega (arith, c.columns-u-end.ensures.value)) c.requires.row)

pub loop-u-preserved : goal.loop-u-preserved
loop-u-preserved c =
    let more = rows_more (strip_square c.args.vertices.now c.args.level c.args.squares.now c.args.v) c.loop-u.u in
    rw more (search (rules, append_assoc))
