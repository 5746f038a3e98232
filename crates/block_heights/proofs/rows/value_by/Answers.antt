use Rattle.std.proofs.Common.{arith}
use Rattle.std.specs.Int.{w32}
use Rattle.std.proofs.lemmas.Int.{ints, to_z-of_z}
use mir.Val.{SFits}
use Rattle.block_heights.proofs.rows.value_by.Goals as goal

pub returns-clause-value : goal.returns-clause-value
returns-clause-value c =
    let prediction_fits : SFits w32 c.args.prediction = c.ranges.prediction in
    let code_fits : SFits w32 c.args.code = c.ranges.code in
    let stepped = simp to_z-of_z at c.steps_of.ensures.value in
    omega (arith, ints, stepped)
