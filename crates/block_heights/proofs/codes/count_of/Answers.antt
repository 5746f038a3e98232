use Rattle.std.proofs.Common.{arith}
use Rattle.block_heights.proofs.CodedRows.{before_more}
use Rattle.block_heights.proofs.codes.count_of.Goals as goal

pub loop-b-preserved : goal.loop-b-preserved
loop-b-preserved c =
    let i = c.loop-b.invariant in
    let more = before_more c.args.region c.args.sides.columns c.loop-b.b in
    let one = c.row_count-count.ensures in
    record { count = omega arith; few = omega arith }
