use Rattle.std.proofs.Common.{arith}
use Rattle.std.specs.Int.{w16, w32}
use Rattle.std.proofs.lemmas.Int.{ints, to_z-of_z}
use mir.Val.{SFits}
use Rattle.four_point.proofs.block.BlockPredictions.residual.Goals as goal

pub returns-clause-value : goal.returns-clause-value
returns-clause-value c =
    let i_fits : SFits w32 c.args.i = c.ranges.i in
    let j_fits : SFits w32 c.args.j = c.ranges.j in
    let height_fits : SFits w16 c.args.height = c.ranges.height in
    let predicted = simp to_z-of_z at c.predict.ensures.value in
    omega (arith, ints, predicted)
