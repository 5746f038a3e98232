-- The centre is twice a quotient and one, and the quotient lies near the viewer.
use Rattle.std.proofs.Common.{◌≡◌, ◌+◌, ◌*◌, ◌^◌, ℤ, pos, neg_ℤ, ◌+ℤ◌, ◌*ℤ◌, ◌≤ℤ◌, ap, ◌∙◌, unsigned_abs, arith}
use Rattle.std.proofs.lemmas.Int.{ints}
use mathlib.Core.Path.{ap₂}
use mir.Syntax.{w32}
use mir.Val.{of_z, to_z}
use Rattle.clip_regions.specs.FloorDivision.{floor_div}
use Rattle.plan_model.specs.Window.{center}
use Rattle.level_frame.proofs.Numbers.{doubled_power}
use Rattle.level_frame.proofs.Centers.{Quotient, IsNearZero, moved, quotient_bounds, center_west, center_east}
use Rattle.level_frame.proofs.center.Goals as goal
use Rattle.clip_regions.proofs.Numbers.{read_back}

divided : (c : goal.After-floor_div) → Quotient c.args.v (pos (2 * 2 ^ c.args.level)) c.floor_div.result
divided c =
    moved c.args.v (to_z w32 (of_z w32 c.args.v)) (pos (2 * 2 ^ c.args.level)) (to_z w32 (of_z w32 c.power_of_two.result)) c.floor_div.result (read_back c.args.v c.ranges.v) (read_back c.power_of_two.result (record { sfits = c.power_of_two.type_inv }) ∙ c.power_of_two.ensures.value ∙ ap pos (doubled_power c.args.level)) (record { below = c.floor_div.ensures.below; above = c.floor_div.ensures.above; at_zero_or_more = c.floor_div.ensures.at_zero_or_more; below_zero = c.floor_div.ensures.below_zero })

near : (c : goal.After-floor_div) → IsNearZero c.floor_div.result
near c = quotient_bounds c.args.v (pos (2 * 2 ^ c.args.level)) c.floor_div.result c.requires.v.low c.requires.v.high (divided c)

quotient_is : (c : goal.After-floor_div) → c.floor_div.result ≡ floor_div c.args.v (2 ^ (c.args.level + 1))
quotient_is c =
    c.floor_div.ensures.value ∙ ap₂ floor_div (read_back c.args.v c.ranges.v) (ap unsigned_abs (read_back c.power_of_two.result (record { sfits = c.power_of_two.type_inv }) ∙ c.power_of_two.ensures.value))

plain : (q : ℤ) → IsNearZero q → to_z w32 (of_z w32 (to_z w32 (of_z w32 (pos 2 *ℤ to_z w32 (of_z w32 q))) +ℤ pos 1)) ≡ pos 2 *ℤ q +ℤ pos 1
plain q near = omega (arith, ints)

low_of : (q z : ℤ) → IsNearZero q → z ≡ pos 2 *ℤ q +ℤ pos 1 → neg_ℤ (pos 8388609) ≤ℤ z
low_of q z near e = omega (arith, ints)

high_of : (q z : ℤ) → IsNearZero q → z ≡ pos 2 *ℤ q +ℤ pos 1 → z ≤ℤ pos 8388609
high_of q z near e = omega (arith, ints)

pub returns-clause-value : goal.returns-clause-value
unfolding center
returns-clause-value c = plain c.floor_div.result (near c) ∙ ap (λ (q : ℤ). pos 2 *ℤ q +ℤ pos 1) (quotient_is c)

pub returns-clause-low : goal.returns-clause-low
returns-clause-low c = low_of c.floor_div.result _ (near c) (plain c.floor_div.result (near c))

pub returns-clause-high : goal.returns-clause-high
returns-clause-high c = high_of c.floor_div.result _ (near c) (plain c.floor_div.result (near c))

pub returns-clause-west : goal.returns-clause-west
returns-clause-west c = center_west c.args.v c.floor_div.result _ (2 ^ c.args.level) (plain c.floor_div.result (near c)) (divided c)

pub returns-clause-east : goal.returns-clause-east
returns-clause-east c = center_east c.args.v c.floor_div.result _ (2 ^ c.args.level) (plain c.floor_div.result (near c)) (divided c)
