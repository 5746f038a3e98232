use Rattle.std.proofs.Common.{◌^◌, ◌≤◌, ◌∙◌, arith}
use Rattle.std.proofs.lemmas.Int.{ints}
use Rattle.plan_model.specs.Window.{torus_side}
use Rattle.level_frame.proofs.Numbers.{power_least}
use Rattle.level_frame.proofs.torus_side.Goals as goal
use Rattle.clip_regions.proofs.Numbers.{read_back}

pub returns-clause-value : goal.returns-clause-value
unfolding torus_side
returns-clause-value c = read_back c.power_of_two.result (record { sfits = c.power_of_two.type_inv }) ∙ c.power_of_two.ensures.value

pub returns-clause-low : goal.returns-clause-low
returns-clause-low c =
    let least : 16 ≤ 2 ^ c.args.k = power_least 4 c.args.k c.requires.low in
    omega (arith, ints)

pub returns-clause-high : goal.returns-clause-high
returns-clause-high c =
    let most : 2 ^ c.args.k ≤ 256 = power_least c.args.k 8 c.requires.high in
    omega (arith, ints)
