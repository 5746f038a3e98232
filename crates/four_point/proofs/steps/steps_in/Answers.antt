use Rattle.std.proofs.Common.{◌+ℤ◌, ◌∙◌, rules}
use Rattle.std.specs.Int.{w32}
use Rattle.std.proofs.lemmas.Int.{to_z-of_z}
use mir.Val.{SFits}
use Rattle.four_point.proofs.SumLemmas.{size_same}
use Rattle.four_point.proofs.StepLemmas.{quotient_size, in_steps_of_one}
use Rattle.four_point.proofs.steps.steps_in.Goals as goal

pub returns-clause-size : goal.returns-clause-size
returns-clause-size c =
    let z = c.floor_div.result in
    let z_fits : SFits w32 z = record { sfits = c.floor_div.type_inv } in
    let d_fits : SFits w32 c.args.distance = c.ranges.distance in
    let h_fits : SFits w32 c.from.result = record { sfits = c.from.type_inv } in
    let total_fits : SFits w32 (c.args.distance +ℤ c.from.result) = search rules in
    let zero = simp to_z-of_z at c.floor_div.ensures.at_zero_or_more in
    let below = simp to_z-of_z at c.floor_div.ensures.below_zero in
    size_same 131071 z z_fits (quotient_size c.args.distance c.from.result z c.args.step c.requires.distance c.requires.step c.from.ensures zero below)

pub returns-then-step-eq1-clause-value : goal.returns-then-step-eq1-clause-value
returns-then-step-eq1-clause-value c =
    let d_fits : SFits w32 c.args.distance = c.ranges.distance in
    to_z-of_z w32 c.args.distance d_fits ∙ in_steps_of_one c.args.distance c.args.step c.if-step-eq1.true
