use Rattle.std.proofs.Common.{◌^◌, ◌≤◌, arith}
use Rattle.std.proofs.lemmas.Int.{ints}
use Rattle.std.proofs.Math.Pow.{pow_mono}
use Rattle.active_region.proofs.drawing.power_of_two.Goals as goal

pub returns-clause-high : goal.returns-clause-high
returns-clause-high c =
    let most : 2 ^ c.args.power ≤ 2 ^ 4 = pow_mono c.requires in
    omega (arith, ints, most)
