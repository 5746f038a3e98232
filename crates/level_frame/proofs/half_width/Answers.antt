use Rattle.std.proofs.Common.{◌-◌, ◌^◌, ◌≤◌, arith}
use Rattle.std.proofs.lemmas.Int.{ints}
use Rattle.plan_model.specs.Window.{half_width}
use Rattle.level_frame.proofs.Numbers.{power_least}
use Rattle.level_frame.proofs.half_width.Goals as goal

pub returns-clause-value : goal.returns-clause-value
unfolding half_width
returns-clause-value c =
    let least : 8 ≤ 2 ^ (c.args.k - 1) = power_least 3 (c.args.k - 1) (omega arith) in
    omega (arith, ints)

pub returns-clause-low : goal.returns-clause-low
returns-clause-low c =
    let least : 8 ≤ 2 ^ (c.args.k - 1) = power_least 3 (c.args.k - 1) (omega arith) in
    omega (arith, ints)

pub returns-clause-high : goal.returns-clause-high
returns-clause-high c =
    let most : 2 ^ (c.args.k - 1) ≤ 128 = power_least (c.args.k - 1) 7 (omega arith) in
    omega (arith, ints)
