use Rattle.std.proofs.Common.{rules}
use Rattle.four_point.specs.Patches.{IsAtMost}
use Rattle.four_point.proofs.SumLemmas.{same, size_same}
use Rattle.four_point.proofs.BlockLemmas.{eight_same, of_eight, small_zero, over_16_read, height_is_small}
use Rattle.four_point.proofs.block.even_row.Goals as goal

pub returns-clause-value : goal.returns-clause-value
returns-clause-value c =
    eight_same _ _ _ _ _ _ _ _ _ _ _ _ _ _ _ _
    (same c.args.line.heights.p (search rules))
    (over_16_read c.args.line.sums.p c.rounded_over_16.result (search rules) (record { sfits = c.rounded_over_16.type_inv }) c.rounded_over_16.ensures.value)
    (same c.args.line.heights.q (search rules))
    (over_16_read c.args.line.sums.q c.rounded_over_16-2.result (search rules) (record { sfits = c.rounded_over_16-2.type_inv }) c.rounded_over_16-2.ensures.value)
    (same c.args.line.heights.r (search rules))
    (over_16_read c.args.line.sums.r c.rounded_over_16-3.result (search rules) (record { sfits = c.rounded_over_16-3.type_inv }) c.rounded_over_16-3.ensures.value)
    (same c.args.line.heights.s (search rules))
    (over_16_read c.args.line.sums.s c.rounded_over_16-4.result (search rules) (record { sfits = c.rounded_over_16-4.type_inv }) c.rounded_over_16-4.ensures.value)

pub returns-clause-size : goal.returns-clause-size
returns-clause-size c =
    of_eight (IsAtMost 51200) _ _ _ _ _ _ _ _
    (size_same 51200 c.args.line.heights.p (search rules) (height_is_small c.args.line.heights.p c.requires.heights.p))
    (size_same 51200 c.rounded_over_16.result (record { sfits = c.rounded_over_16.type_inv }) c.rounded_over_16.ensures.size)
    (size_same 51200 c.args.line.heights.q (search rules) (height_is_small c.args.line.heights.q c.requires.heights.q))
    (size_same 51200 c.rounded_over_16-2.result (record { sfits = c.rounded_over_16-2.type_inv }) c.rounded_over_16-2.ensures.size)
    (size_same 51200 c.args.line.heights.r (search rules) (height_is_small c.args.line.heights.r c.requires.heights.r))
    (size_same 51200 c.rounded_over_16-3.result (record { sfits = c.rounded_over_16-3.type_inv }) c.rounded_over_16-3.ensures.size)
    (size_same 51200 c.args.line.heights.s (search rules) (height_is_small c.args.line.heights.s c.requires.heights.s))
    (size_same 51200 c.rounded_over_16-4.result (record { sfits = c.rounded_over_16-4.type_inv }) c.rounded_over_16-4.ensures.size)
    small_zero
