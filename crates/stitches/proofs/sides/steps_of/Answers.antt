-- The difference is the way.
use Rattle.std.proofs.Common.{◌≡◌, ◌-ℤ◌, ◌∙◌, w32, arith}
use Rattle.std.proofs.lemmas.Int.{ints}
use Rattle.stitches.proofs.Ways.{InOrder, in_order, way_is, way_few, across_is, along_is}
use Rattle.stitches.proofs.sides.steps_of.Goals as goal
use mir.Val.{to_z, of_z}

pub overflow_cast-result : goal.overflow_cast-result
overflow_cast-result c =
    let some : InOrder c.args.active.now = in_order c.args.active.now c.requires.some in
    omega (arith, ints, some.across)

pub overflow_cast-result-in-East : goal.overflow_cast-result-in-East
overflow_cast-result-in-East c =
    let some : InOrder c.args.active.now = in_order c.args.active.now c.requires.some in
    omega (arith, ints, some.along)

pub returns-in-North-clause-value : goal.returns-in-North-clause-value
returns-in-North-clause-value c =
    let r = c.args.active.now in
    let some : InOrder r = in_order r c.requires.some in
    let e : to_z w32 (of_z w32 (to_z w32 (of_z w32 r.x1) -ℤ to_z w32 (of_z w32 r.x0))) ≡ r.x1 -ℤ r.x0 = omega (arith, ints) in
    way_is r.x0 r.x1 (to_z w32 (of_z w32 (to_z w32 (of_z w32 r.x1) -ℤ to_z w32 (of_z w32 r.x0)))) e some.across ∙ across_is r c.args.side c.in-North.is

pub returns-in-North-clause-few : goal.returns-in-North-clause-few
returns-in-North-clause-few c =
    let r = c.args.active.now in
    let some : InOrder r = in_order r c.requires.some in
    let near = c.requires.near in
    let e : to_z w32 (of_z w32 (to_z w32 (of_z w32 r.x1) -ℤ to_z w32 (of_z w32 r.x0))) ≡ r.x1 -ℤ r.x0 = omega (arith, ints) in
    way_few r.x0 r.x1 (to_z w32 (of_z w32 (to_z w32 (of_z w32 r.x1) -ℤ to_z w32 (of_z w32 r.x0)))) e some.across near.x0_low near.x1_high

pub returns-in-East-clause-value : goal.returns-in-East-clause-value
returns-in-East-clause-value c =
    let r = c.args.active.now in
    let some : InOrder r = in_order r c.requires.some in
    let e : to_z w32 (of_z w32 (to_z w32 (of_z w32 r.y1) -ℤ to_z w32 (of_z w32 r.y0))) ≡ r.y1 -ℤ r.y0 = omega (arith, ints) in
    way_is r.y0 r.y1 (to_z w32 (of_z w32 (to_z w32 (of_z w32 r.y1) -ℤ to_z w32 (of_z w32 r.y0)))) e some.along ∙ along_is r c.args.side c.in-East.is

pub returns-in-East-clause-few : goal.returns-in-East-clause-few
returns-in-East-clause-few c =
    let r = c.args.active.now in
    let some : InOrder r = in_order r c.requires.some in
    let near = c.requires.near in
    let e : to_z w32 (of_z w32 (to_z w32 (of_z w32 r.y1) -ℤ to_z w32 (of_z w32 r.y0))) ≡ r.y1 -ℤ r.y0 = omega (arith, ints) in
    way_few r.y0 r.y1 (to_z w32 (of_z w32 (to_z w32 (of_z w32 r.y1) -ℤ to_z w32 (of_z w32 r.y0)))) e some.along near.y0_low near.y1_high
