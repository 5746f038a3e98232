-- The two products, and their sum.
use Rattle.std.proofs.Common.{◌≡◌, ◌+ℤ◌, ◌*ℤ◌, ◌∙◌, ap, w32, arith}
use Rattle.std.proofs.lemmas.Int.{ints, to_z-of_z}
use Rattle.mesh_plain_heights.specs.Drawn.{own_weight, coarser_weight, blended_by}
use Rattle.mesh_plain_heights.proofs.heights.blended.Goals as goal
use mir.Val.{to_z, of_z}
use Rattle.mesh_model.proofs.Weights.{sum_is, read_32}

pub weighted-requires-2-clause-low : goal.weighted-requires-2-clause-low
weighted-requires-2-clause-low c = omega (arith, ints)

pub overflow_add-result : goal.overflow_add-result
overflow_add-result c = omega (arith, ints)

pub returns : goal.returns
unfolding blended_by
returns c =
    let weight : to_z w32 (of_z w32 c.own_weight.result) ≡ own_weight c.args.k c.args.share = read_32 (record { sfits = c.own_weight.type_inv }) (c.own_weight.ensures.value ∙ ap (own_weight c.args.k) (to_z-of_z w32 c.args.share c.ranges.share)) in
    let height : to_z w32 (of_z w32 c.from-3.result) ≡ c.args.own = omega (arith, ints) in
    let coarser : to_z w32 (of_z w32 c.coarser_weight.result) ≡ coarser_weight c.args.k c.args.share = read_32 (record { sfits = c.coarser_weight.type_inv }) (c.coarser_weight.ensures.value ∙ ap (coarser_weight c.args.k) (to_z-of_z w32 c.args.share c.ranges.share)) in
    let heights : to_z w32 (of_z w32 (to_z w32 (of_z w32 c.from.result) +ℤ to_z w32 (of_z w32 c.from-2.result))) ≡ c.args.a +ℤ c.args.b = omega (arith, ints) in
    sum_is c.weighted.result c.weighted-2.result (own_weight c.args.k c.args.share *ℤ c.args.own) (coarser_weight c.args.k c.args.share *ℤ (c.args.a +ℤ c.args.b))
    (c.weighted.ensures.value ∙ (λ t. weight t *ℤ height t))
    (c.weighted-2.ensures.value ∙ (λ t. coarser t *ℤ heights t))
    c.weighted.ensures.low c.weighted.ensures.high c.weighted-2.ensures.low c.weighted-2.ensures.high
