use Rattle.std.proofs.Common.{arith}
use Rattle.std.proofs.lemmas.Int.{ints}
use Rattle.plan_model.specs.Blocks.{block_cells}
use Rattle.plan_plain_pieces.proofs.blocks.block_cells.Goals as goal
use Rattle.clip_regions.proofs.Cells.{same_corners}

pub returns-clause-value : goal.returns-clause-value
unfolding block_cells
returns-clause-value c =
    same_corners _ (block_cells c.args.bx c.args.by) (omega (arith, ints)) (omega (arith, ints)) (omega (arith, ints)) (omega (arith, ints))
