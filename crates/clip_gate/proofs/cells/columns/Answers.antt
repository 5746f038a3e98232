-- The numbers between the two corners, counted by their difference.
use Rattle.std.proofs.Common.{◌≡◌, ◌≤◌, ◌*◌, ◌^◌, ℤ, pos, ◌+ℤ◌, ◌-ℤ◌, ◌≤ℤ◌, nat_abs, sym, w32, arith}
use Rattle.std.proofs.lemmas.Int.{ints}
use Rattle.clip_regions.specs.Regions.{columns}
use Rattle.clip_gate.proofs.cells.columns.Goals as goal
use mir.Val.{to_z, of_z}
use Rattle.clip_regions.proofs.Gaps.{gap_none, span_is, span_few}

pub returns-then-region-clause-value : goal.returns-then-region-clause-value
unfolding columns
returns-then-region-clause-value c =
    let none : (c.args.region.x1 +ℤ pos 1) ≤ℤ c.args.region.x0 = grind (arith, ints) in
    sym (gap_none c.args.region.x0 (c.args.region.x1 +ℤ pos 1) none)

pub returns-else-region-clause-value : goal.returns-else-region-clause-value
unfolding columns
returns-else-region-clause-value c =
    let d : ℤ = to_z w32 (of_z w32 (to_z w32 (of_z w32 c.args.region.x1) -ℤ to_z w32 (of_z w32 c.args.region.x0))) in
    let e : d ≡ c.args.region.x1 -ℤ c.args.region.x0 = omega (arith, ints) in
    let positive : pos 0 ≤ℤ (c.args.region.x1 -ℤ c.args.region.x0) = grind (arith, ints) in
    span_is c.args.region.x0 c.args.region.x1 d e (omega (arith, ints, e, positive))

pub returns-else-region-clause-few : goal.returns-else-region-clause-few
returns-else-region-clause-few c =
    let d : ℤ = to_z w32 (of_z w32 (to_z w32 (of_z w32 c.args.region.x1) -ℤ to_z w32 (of_z w32 c.args.region.x0))) in
    let e : d ≡ c.args.region.x1 -ℤ c.args.region.x0 = omega (arith, ints) in
    let positive : pos 0 ≤ℤ (c.args.region.x1 -ℤ c.args.region.x0) = grind (arith, ints) in
    let few : nat_abs d ≤ 2 * (2 ^ 24) = span_few c.args.region.x0 c.args.region.x1 d (2 ^ 24) e (omega (arith, ints, e, positive)) c.requires.x0_low c.requires.x1_high in
    omega (arith, few)
