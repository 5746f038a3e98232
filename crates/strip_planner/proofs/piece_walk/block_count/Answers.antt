use Rattle.std.proofs.Common.{◌≡◌, ℤ, pos, ◌+ℤ◌, ap, ◌∙◌, arith}
use Rattle.std.specs.Int.{int_gap}
use Rattle.std.proofs.lemmas.Int.{ints}
use mathlib.Core.Path.{ap₂}
use Rattle.clip_regions.specs.FloorDivision.{floor_div}
use Rattle.plan_laws.specs.Pieces.{blocks_between}
use Rattle.strip_planner.proofs.Rows.{Eighth, count_is}
use Rattle.strip_planner.proofs.piece_walk.block_count.Goals as goal
use Rattle.clip_regions.proofs.Numbers.{read_back}

pub returns-clause-value : goal.returns-clause-value
unfolding blocks_between
returns-clause-value c =
    let low_is : c.eighth-low.result ≡ floor_div c.args.first 8 = c.eighth-low.ensures.value ∙ ap (λ (v : ℤ). floor_div v 8) (read_back c.args.first c.ranges.first) in
    let high_is : c.eighth-high.result ≡ floor_div c.args.last 8 = c.eighth-high.ensures.value ∙ ap (λ (v : ℤ). floor_div v 8) (read_back c.args.last c.ranges.last) in
    let near_low : Eighth c.args.first c.eighth-low.result = record { below = omega (arith, ints, c.eighth-low.ensures.below); above = omega (arith, ints, c.eighth-low.ensures.above) } in
    let near_high : Eighth c.args.last c.eighth-high.result = record { below = omega (arith, ints, c.eighth-high.ensures.below); above = omega (arith, ints, c.eighth-high.ensures.above) } in
    count_is c.args.first c.args.last c.eighth-low.result c.eighth-high.result _ near_low near_high c.requires (omega (arith, ints)) ∙ ap₂ (λ (a b : ℤ). int_gap a (b +ℤ pos 1)) low_is high_is

pub returns-clause-ends : goal.returns-clause-ends
returns-clause-ends c =
    let low_is : c.eighth-low.result ≡ floor_div c.args.first 8 = c.eighth-low.ensures.value ∙ ap (λ (v : ℤ). floor_div v 8) (read_back c.args.first c.ranges.first) in
    omega (arith, ints, low_is)

pub returns-clause-few : goal.returns-clause-few
returns-clause-few c = λ short. omega (arith, ints)
