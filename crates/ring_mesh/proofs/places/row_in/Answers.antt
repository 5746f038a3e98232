-- The difference is the way, and it ends within the region.
use Rattle.std.proofs.Common.{◌≡◌, ◌+◌, ◌≤◌, ℤ, ◌-ℤ◌, ◌≤ℤ◌, nat_abs, w32, arith}
use Rattle.std.specs.Int.{int_gap}
use Rattle.std.proofs.lemmas.Int.{ints}
use Rattle.clip_regions.specs.Regions.{rows}
use Rattle.ring_mesh.proofs.places.row_in.Goals as goal
use mir.Val.{to_z, of_z}
use Rattle.clip_regions.proofs.Gaps.{way_is, way_within}

pub returns-clause-few : goal.returns-clause-few
unfolding rows
returns-clause-few c =
    let d : ℤ = to_z w32 (of_z w32 (to_z w32 (of_z w32 c.args.j) -ℤ to_z w32 (of_z w32 c.args.region.now.y0))) in
    let low : c.args.region.now.y0 ≤ℤ c.args.j = omega (arith, ints) in
    let high : c.args.j ≤ℤ c.args.region.now.y1 = omega (arith, ints) in
    let e : d ≡ c.args.j -ℤ c.args.region.now.y0 = omega (arith, ints) in
    let way : nat_abs d ≡ int_gap c.args.region.now.y0 c.args.j = way_is c.args.region.now.y0 c.args.j d e (omega (arith, ints, e, low)) in
    let within : int_gap c.args.region.now.y0 c.args.j + 1 ≤ 255 = way_within c.args.region.now.y0 c.args.j c.args.region.now.y1 255 low high c.requires.region.few_rows in
    omega (arith, way, within)
