use Rattle.std.proofs.Common.{arith}
use Rattle.std.proofs.lemmas.Int.{ints}
use Rattle.plan_model.specs.Strips.{right_of}
use Rattle.plan_plain_pieces.proofs.window_strips.right_of.Goals as goal
use Rattle.clip_regions.proofs.Cells.{same_corners}

pub returns : goal.returns
unfolding right_of
returns c =
    same_corners _ (right_of c.args.filled c.args.window) (omega (arith, ints)) (omega (arith, ints)) (omega (arith, ints)) (omega (arith, ints))
