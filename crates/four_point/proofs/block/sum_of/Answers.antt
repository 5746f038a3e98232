use Rattle.std.specs.Int.{w32}
use mir.Val.{SFits}
use Rattle.four_point.proofs.SumLemmas.{size_same}
use Rattle.four_point.proofs.BlockLemmas.{short_at_most}
use Rattle.four_point.proofs.block.sum_of.Goals as goal

pub returns-clause-size : goal.returns-clause-size
returns-clause-size c =
    let p_fits : SFits w32 c.from.result = record { sfits = c.from.type_inv } in
    let q_fits : SFits w32 c.from-2.result = record { sfits = c.from-2.type_inv } in
    let r_fits : SFits w32 c.from-3.result = record { sfits = c.from-3.type_inv } in
    let s_fits : SFits w32 c.from-4.result = record { sfits = c.from-4.type_inv } in
    let total_fits : SFits w32 c.weighted.result = record { sfits = c.weighted.type_inv } in
    size_same 655360 c.weighted.result total_fits
    (c.weighted.ensures.size 32768
    (short_at_most c.args.before c.from.result c.ranges.before p_fits c.from.ensures)
    (short_at_most c.args.near c.from-2.result c.ranges.near q_fits c.from-2.ensures)
    (short_at_most c.args.far c.from-3.result c.ranges.far r_fits c.from-3.ensures)
    (short_at_most c.args.beyond c.from-4.result c.ranges.beyond s_fits c.from-4.ensures))
