use Rattle.std.proofs.Common.{◌^◌, ◌≤◌, arith}
use Rattle.std.proofs.lemmas.Int.{ints}
use Rattle.level_frame.proofs.Numbers.{power_least}
use Rattle.level_frame.proofs.power_of_two.Goals as goal

pub returns-clause-high : goal.returns-clause-high
returns-clause-high c =
    let most : 2 ^ c.args.power ≤ 4096 = power_least c.args.power 12 c.requires in
    omega (arith, ints, most)
