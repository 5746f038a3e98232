use Rattle.std.proofs.Common.{arith}
use Rattle.std.proofs.lemmas.Int.{ints}
use Rattle.plan_model.specs.Strips.{above}
use Rattle.plan_plain_pieces.proofs.window_strips.above.Goals as goal
use Rattle.clip_regions.proofs.Cells.{same_corners}

pub returns : goal.returns
unfolding above
returns c =
    same_corners _ (above c.args.filled c.args.window) (omega (arith, ints)) (omega (arith, ints)) (omega (arith, ints)) (omega (arith, ints))
