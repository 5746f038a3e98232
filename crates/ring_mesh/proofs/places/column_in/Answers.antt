-- The difference is the way, and it ends within the region.
use Rattle.std.proofs.Common.{◌≡◌, ◌+◌, ◌≤◌, ℤ, ◌-ℤ◌, ◌≤ℤ◌, nat_abs, w32, arith}
use Rattle.std.specs.Int.{int_gap}
use Rattle.std.proofs.lemmas.Int.{ints}
use Rattle.clip_regions.specs.Regions.{columns}
use Rattle.ring_mesh.proofs.places.column_in.Goals as goal
use mir.Val.{to_z, of_z}
use Rattle.clip_regions.proofs.Gaps.{way_is, way_within}

pub returns-clause-few : goal.returns-clause-few
unfolding columns
returns-clause-few c =
    let d : ℤ = to_z w32 (of_z w32 (to_z w32 (of_z w32 c.args.i) -ℤ to_z w32 (of_z w32 c.args.region.now.x0))) in
    let low : c.args.region.now.x0 ≤ℤ c.args.i = omega (arith, ints) in
    let high : c.args.i ≤ℤ c.args.region.now.x1 = omega (arith, ints) in
    let e : d ≡ c.args.i -ℤ c.args.region.now.x0 = omega (arith, ints) in
    let way : nat_abs d ≡ int_gap c.args.region.now.x0 c.args.i = way_is c.args.region.now.x0 c.args.i d e (omega (arith, ints, e, low)) in
    let within : int_gap c.args.region.now.x0 c.args.i + 1 ≤ 255 = way_within c.args.region.now.x0 c.args.i c.args.region.now.x1 255 low high c.requires.region.few_columns in
    omega (arith, way, within)
