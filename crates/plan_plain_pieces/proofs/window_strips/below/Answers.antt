use Rattle.std.proofs.Common.{arith}
use Rattle.std.proofs.lemmas.Int.{ints}
use Rattle.plan_model.specs.Strips.{below}
use Rattle.plan_plain_pieces.proofs.window_strips.below.Goals as goal
use Rattle.clip_regions.proofs.Cells.{same_corners}

pub returns : goal.returns
unfolding below
returns c =
    same_corners _ (below c.args.filled c.args.window) (omega (arith, ints)) (omega (arith, ints)) (omega (arith, ints)) (omega (arith, ints))
