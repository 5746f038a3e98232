use Rattle.std.proofs.Common.{◌∙◌}
use Rattle.four_point.proofs.BlockLemmas.{middle_same}
use Rattle.four_point.proofs.block.middle_row.Goals as goal

pub returns-clause-value : goal.returns-clause-value
returns-clause-value c =
    c.odd_row.ensures.value ∙ middle_same c.args.before c.args.near c.args.far c.args.beyond c.sums_down-columns.result c.sums_down-squares.result c.sums_down-columns.ensures.sums c.sums_down-squares.ensures.sums
