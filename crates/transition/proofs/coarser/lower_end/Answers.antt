use Rattle.std.proofs.Common.{ℤ, ap, ◌∙◌, w32}
use Rattle.std.proofs.lemmas.Int.{to_z-of_z}
use Rattle.clip_regions.specs.FloorDivision.{floor_div}
use Rattle.transition.proofs.Halves.{lower_is}
use Rattle.transition.proofs.coarser.lower_end.Goals as goal

pub returns : goal.returns
returns c =
    to_z-of_z w32 c.floor_div.result (record { sfits = c.floor_div.type_inv })
    ∙ c.floor_div.ensures.value
    ∙ ap (λ (z : ℤ). floor_div z 2) (to_z-of_z w32 c.args.i c.ranges.i)
    ∙ lower_is c.args.i
