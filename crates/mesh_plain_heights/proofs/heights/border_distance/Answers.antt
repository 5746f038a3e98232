-- The least of the four ways to the border.
use Rattle.std.proofs.Common.{◌≡◌, ◌≤ℤ◌, ◌-ℤ◌, ◌∙◌, ◌^◌, ℤ, pos, neg_ℤ, ap₂, subst, sym, w32}
use Rattle.std.specs.Int.{int_min}
use Rattle.std.proofs.lemmas.Int.{to_z-of_z}
use Rattle.mesh_plain_heights.proofs.Blends.{difference_is, distance_low, distance_high}
use Rattle.mesh_plain_heights.proofs.heights.border_distance.Goals as goal
use mir.Val.{to_z, of_z}
use Rattle.mesh_model.proofs.Weights.{distance_is}

pub returns-clause-value : goal.returns-clause-value
returns-clause-value c =
    let a : to_z w32 (of_z w32 (to_z w32 (of_z w32 c.args.cell.now.i) -ℤ to_z w32 (of_z w32 c.args.region.now.x0))) ≡ c.args.cell.now.i -ℤ c.args.region.now.x0 = difference_is c.args.cell.now.i c.args.region.now.x0 c.requires.cell.west c.requires.cell.east c.requires.region.x0_low c.requires.region.x0_high in
    let b : to_z w32 (of_z w32 (to_z w32 (of_z w32 c.args.region.now.x1) -ℤ to_z w32 (of_z w32 c.args.cell.now.i))) ≡ c.args.region.now.x1 -ℤ c.args.cell.now.i = difference_is c.args.region.now.x1 c.args.cell.now.i c.requires.region.x1_low c.requires.region.x1_high c.requires.cell.west c.requires.cell.east in
    let d : to_z w32 (of_z w32 (to_z w32 (of_z w32 c.args.cell.now.j) -ℤ to_z w32 (of_z w32 c.args.region.now.y0))) ≡ c.args.cell.now.j -ℤ c.args.region.now.y0 = difference_is c.args.cell.now.j c.args.region.now.y0 c.requires.cell.north c.requires.cell.south c.requires.region.y0_low c.requires.region.y0_high in
    let e : to_z w32 (of_z w32 (to_z w32 (of_z w32 c.args.region.now.y1) -ℤ to_z w32 (of_z w32 c.args.cell.now.j))) ≡ c.args.region.now.y1 -ℤ c.args.cell.now.j = difference_is c.args.region.now.y1 c.args.cell.now.j c.requires.region.y1_low c.requires.region.y1_high c.requires.cell.north c.requires.cell.south in
    let across : c.min-across.result ≡ int_min (to_z w32 (of_z w32 (to_z w32 (of_z w32 c.args.cell.now.i) -ℤ to_z w32 (of_z w32 c.args.region.now.x0)))) (to_z w32 (of_z w32 (to_z w32 (of_z w32 c.args.region.now.x1) -ℤ to_z w32 (of_z w32 c.args.cell.now.i)))) = c.min-across.ensures.value in
    let down : c.min-down.result ≡ int_min (to_z w32 (of_z w32 (to_z w32 (of_z w32 c.args.cell.now.j) -ℤ to_z w32 (of_z w32 c.args.region.now.y0)))) (to_z w32 (of_z w32 (to_z w32 (of_z w32 c.args.region.now.y1) -ℤ to_z w32 (of_z w32 c.args.cell.now.j)))) = c.min-down.ensures.value in
    let whole : c.min.result ≡ int_min (to_z w32 (of_z w32 c.min-across.result)) (to_z w32 (of_z w32 c.min-down.result)) = c.min.ensures.value in
    let columns : to_z w32 (of_z w32 c.min-across.result) ≡ int_min (c.args.cell.now.i -ℤ c.args.region.now.x0) (c.args.region.now.x1 -ℤ c.args.cell.now.i) =
    to_z-of_z w32 c.min-across.result (record { sfits = c.min-across.type_inv }) ∙ across ∙ ap₂ int_min a b in
    let rows : to_z w32 (of_z w32 c.min-down.result) ≡ int_min (c.args.cell.now.j -ℤ c.args.region.now.y0) (c.args.region.now.y1 -ℤ c.args.cell.now.j) =
    to_z-of_z w32 c.min-down.result (record { sfits = c.min-down.type_inv }) ∙ down ∙ ap₂ int_min d e in
    distance_is c.args.region.now c.args.cell.now.i c.args.cell.now.j (to_z w32 (of_z w32 c.min.result))
    (to_z-of_z w32 c.min.result (record { sfits = c.min.type_inv }) ∙ whole ∙ ap₂ int_min columns rows)

pub returns-clause-low : goal.returns-clause-low
returns-clause-low c =
    subst (λ (z : ℤ). neg_ℤ (pos (2 ^ 25)) ≤ℤ z) (sym (returns-clause-value c))
    (distance_low c.args.region.now c.args.cell.now.i c.args.cell.now.j c.requires.region c.requires.cell.west c.requires.cell.east c.requires.cell.north c.requires.cell.south)

pub returns-clause-high : goal.returns-clause-high
returns-clause-high c =
    subst (λ (z : ℤ). z ≤ℤ pos (2 ^ 25)) (sym (returns-clause-value c))
    (distance_high c.args.region.now c.args.cell.now.i c.args.cell.now.j c.requires.region c.requires.cell.west c.requires.cell.east c.requires.cell.north c.requires.cell.south)
