-- One cell more is the row up to the next column.
use Rattle.std.proofs.Common.{rules, arith, append_assoc}
use Rattle.std.proofs.lemmas.List.FromFn.{map-range_with_len_more}
use Rattle.mesh_plain.specs.Cells.{cell_in}
use Rattle.mesh_plain.proofs.cells.add_row.Goals as goal

pub loop-u-preserved : goal.loop-u-preserved
loop-u-preserved c =
    let more = map-range_with_len_more (cell_in c.args.level c.args.region.now c.args.v) 0 c.loop-u.u c.loop-u.u (omega arith) in
    rw more (search (rules, append_assoc))
