-- The least of the four ways to the border, none of them negative.
use Rattle.std.proofs.Common.{◌≡◌, ◌≤ℤ◌, ◌-ℤ◌, ◌∙◌, ℤ, pos, ap₂, subst, sym, w32, w64, rules}
use Rattle.std.specs.Int.{int_min}
use Rattle.std.proofs.lemmas.Int.{to_z-of_z}
use Rattle.transition.proofs.Weights.{difference_is, distance_inside}
use Rattle.transition.proofs.blend.border_distance.Goals as goal
use mir.Val.{to_z, of_z, SFits}
use Rattle.mesh_model.proofs.Weights.{distance_is}

pub returns-clause-value : goal.returns-clause-value
returns-clause-value c =
    let x0 : SFits w32 c.args.active.x0 = search rules in
    let x1 : SFits w32 c.args.active.x1 = search rules in
    let y0 : SFits w32 c.args.active.y0 = search rules in
    let y1 : SFits w32 c.args.active.y1 = search rules in
    let west = difference_is c.from-column.result c.from.result c.args.i c.args.active.x0 c.ranges.i x0 c.from-column.ensures c.from.ensures in
    let east = difference_is c.from-2.result c.from-column.result c.args.active.x1 c.args.i x1 c.ranges.i c.from-2.ensures c.from-column.ensures in
    let north = difference_is c.from-row.result c.from-3.result c.args.j c.args.active.y0 c.ranges.j y0 c.from-row.ensures c.from-3.ensures in
    let south = difference_is c.from-4.result c.from-row.result c.args.active.y1 c.args.j y1 c.ranges.j c.from-4.ensures c.from-row.ensures in
    let columns : to_z w64 (of_z w64 c.min-across.result) ≡ int_min (c.args.i -ℤ c.args.active.x0) (c.args.active.x1 -ℤ c.args.i) =
    to_z-of_z w64 c.min-across.result (record { sfits = c.min-across.type_inv }) ∙ c.min-across.ensures.value ∙ ap₂ int_min west east in
    let rows : to_z w64 (of_z w64 c.min-along.result) ≡ int_min (c.args.j -ℤ c.args.active.y0) (c.args.active.y1 -ℤ c.args.j) =
    to_z-of_z w64 c.min-along.result (record { sfits = c.min-along.type_inv }) ∙ c.min-along.ensures.value ∙ ap₂ int_min north south in
    distance_is c.args.active c.args.i c.args.j (to_z w64 (of_z w64 c.min.result))
    (to_z-of_z w64 c.min.result (record { sfits = c.min.type_inv }) ∙ c.min.ensures.value ∙ ap₂ int_min columns rows)

pub returns-clause-inside : goal.returns-clause-inside
returns-clause-inside c =
    subst (λ (z : ℤ). pos 0 ≤ℤ z) (sym (returns-clause-value c)) (distance_inside c.args.active c.args.i c.args.j c.requires)
