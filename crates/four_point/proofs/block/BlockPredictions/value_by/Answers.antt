use Rattle.std.proofs.Common.{arith}
use Rattle.std.specs.Int.{w32}
use Rattle.std.proofs.lemmas.Int.{ints, to_z-of_z}
use mir.Val.{SFits}
use Rattle.four_point.specs.Steps.{value_of}
use Rattle.four_point.proofs.block.BlockPredictions.value_by.Goals as goal

pub returns : goal.returns
unfolding value_of
returns c =
    let i_fits : SFits w32 c.args.i = c.ranges.i in
    let j_fits : SFits w32 c.args.j = c.ranges.j in
    let code_fits : SFits w32 c.args.code = c.ranges.code in
    let predicted = simp to_z-of_z at c.predict.ensures.value in
    let stepped = simp to_z-of_z at c.steps_of.ensures.value in
    omega (arith, ints, predicted, stepped)
