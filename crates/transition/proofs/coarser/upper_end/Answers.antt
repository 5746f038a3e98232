use Rattle.std.proofs.Common.{◌≡◌, ℤ, pos, ◌+ℤ◌, ap, ◌∙◌, w32, arith}
use Rattle.std.proofs.lemmas.Int.{ints, to_z-of_z}
use Rattle.clip_regions.specs.FloorDivision.{floor_div, floor_rem}
use Rattle.transition.proofs.Halves.{upper_is}
use Rattle.transition.proofs.coarser.upper_end.Goals as goal
use mir.Val.{to_z, of_z}

pub returns : goal.returns
returns c =
    let i : to_z w32 (of_z w32 c.args.i) ≡ c.args.i = to_z-of_z w32 c.args.i c.ranges.i in
    let sum : to_z w32 (of_z w32 (to_z w32 (of_z w32 c.floor_div.result) +ℤ to_z w32 (of_z w32 c.wrap.result))) ≡ c.floor_div.result +ℤ c.wrap.result = omega (arith, ints) in
    sum
    ∙ (λ t. c.floor_div.ensures.value t +ℤ c.wrap.ensures.value t)
    ∙ ap (λ (z : ℤ). floor_div z 2 +ℤ pos (floor_rem z 2)) i
    ∙ upper_is c.args.i
