use Rattle.std.proofs.Common.{◌-◌, ◌^◌, ◌≤◌, ◌∙◌, arith}
use Rattle.std.proofs.lemmas.Int.{ints}
use Rattle.plan_model.specs.Window.{blend_width}
use Rattle.level_frame.proofs.Numbers.{power_least}
use Rattle.level_frame.proofs.blend_width.Goals as goal
use Rattle.clip_regions.proofs.Numbers.{read_back}

pub returns-clause-value : goal.returns-clause-value
unfolding blend_width
returns-clause-value c = read_back c.power_of_two.result (record { sfits = c.power_of_two.type_inv }) ∙ c.power_of_two.ensures.value

pub returns-clause-high : goal.returns-clause-high
returns-clause-high c =
    let most : 2 ^ (c.args.k - 4) ≤ 16 = power_least (c.args.k - 4) 4 (omega arith) in
    omega (arith, ints)
