use Rattle.std.proofs.Common.{rules}
use Rattle.four_point.specs.Patches.{IsAtMost}
use Rattle.four_point.proofs.SumLemmas.{size_same}
use Rattle.four_point.proofs.BlockLemmas.{eight_same, of_eight, small_zero, over_16_read, over_256_read}
use Rattle.four_point.proofs.block.odd_row.Goals as goal

pub returns-clause-value : goal.returns-clause-value
returns-clause-value c =
    eight_same _ _ _ _ _ _ _ _ _ _ _ _ _ _ _ _
    (over_16_read c.args.columns.p c.rounded_over_16.result (search rules) (record { sfits = c.rounded_over_16.type_inv }) c.rounded_over_16.ensures.value)
    (over_256_read c.args.squares.p c.rounded_over_256.result (search rules) (record { sfits = c.rounded_over_256.type_inv }) c.rounded_over_256.ensures.value)
    (over_16_read c.args.columns.q c.rounded_over_16-2.result (search rules) (record { sfits = c.rounded_over_16-2.type_inv }) c.rounded_over_16-2.ensures.value)
    (over_256_read c.args.squares.q c.rounded_over_256-2.result (search rules) (record { sfits = c.rounded_over_256-2.type_inv }) c.rounded_over_256-2.ensures.value)
    (over_16_read c.args.columns.r c.rounded_over_16-3.result (search rules) (record { sfits = c.rounded_over_16-3.type_inv }) c.rounded_over_16-3.ensures.value)
    (over_256_read c.args.squares.r c.rounded_over_256-3.result (search rules) (record { sfits = c.rounded_over_256-3.type_inv }) c.rounded_over_256-3.ensures.value)
    (over_16_read c.args.columns.s c.rounded_over_16-4.result (search rules) (record { sfits = c.rounded_over_16-4.type_inv }) c.rounded_over_16-4.ensures.value)
    (over_256_read c.args.squares.s c.rounded_over_256-4.result (search rules) (record { sfits = c.rounded_over_256-4.type_inv }) c.rounded_over_256-4.ensures.value)

pub returns-clause-size : goal.returns-clause-size
returns-clause-size c =
    of_eight (IsAtMost 51200) _ _ _ _ _ _ _ _
    (size_same 51200 c.rounded_over_16.result (record { sfits = c.rounded_over_16.type_inv }) c.rounded_over_16.ensures.size)
    (size_same 51200 c.rounded_over_256.result (record { sfits = c.rounded_over_256.type_inv }) c.rounded_over_256.ensures.size)
    (size_same 51200 c.rounded_over_16-2.result (record { sfits = c.rounded_over_16-2.type_inv }) c.rounded_over_16-2.ensures.size)
    (size_same 51200 c.rounded_over_256-2.result (record { sfits = c.rounded_over_256-2.type_inv }) c.rounded_over_256-2.ensures.size)
    (size_same 51200 c.rounded_over_16-3.result (record { sfits = c.rounded_over_16-3.type_inv }) c.rounded_over_16-3.ensures.size)
    (size_same 51200 c.rounded_over_256-3.result (record { sfits = c.rounded_over_256-3.type_inv }) c.rounded_over_256-3.ensures.size)
    (size_same 51200 c.rounded_over_16-4.result (record { sfits = c.rounded_over_16-4.type_inv }) c.rounded_over_16-4.ensures.size)
    (size_same 51200 c.rounded_over_256-4.result (record { sfits = c.rounded_over_256-4.type_inv }) c.rounded_over_256-4.ensures.size)
    small_zero
