use Rattle.std.proofs.Common.{arith}
use Rattle.std.proofs.lemmas.Int.{ints}
use Rattle.plan_model.specs.Strips.{left_of}
use Rattle.plan_plain_pieces.proofs.window_strips.left_of.Goals as goal
use Rattle.clip_regions.proofs.Cells.{same_corners}

pub returns : goal.returns
unfolding left_of
returns c =
    same_corners _ (left_of c.args.filled c.args.window) (omega (arith, ints)) (omega (arith, ints)) (omega (arith, ints)) (omega (arith, ints))
