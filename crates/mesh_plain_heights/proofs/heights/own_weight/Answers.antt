-- The weight is that of the definition, and so it is small.
use Rattle.std.proofs.Common.{◌≡◌, ◌/◌, ℤ, pos, ◌-ℤ◌, ◌≤ℤ◌, subst, sym, w32, arith}
use Rattle.std.proofs.lemmas.Int.{ints}
use Rattle.plan_model.specs.Window.{blend_width}
use Rattle.mesh_plain_heights.specs.Drawn.{own_weight}
use Rattle.mesh_plain_heights.proofs.Weights.{own_fits}
use Rattle.mesh_plain_heights.proofs.heights.own_weight.Goals as goal
use mir.Val.{to_z, of_z}
use Rattle.mesh_model.proofs.Weights.{weight_sfits, product_is}

pub returns-clause-value : goal.returns-clause-value
unfolding own_weight
returns-clause-value c =
    let rest : to_z w32 (of_z w32 (to_z w32 (of_z w32 c.blend_width.result) -ℤ to_z w32 (of_z w32 c.args.share))) ≡ pos (blend_width c.args.k) -ℤ c.args.share = omega (arith, ints) in
    let scale : to_z w32 (of_z w32 c.own_scale.result) ≡ pos (32 / blend_width c.args.k) = omega (arith, ints) in
    product_is _ _ (pos (blend_width c.args.k) -ℤ c.args.share) (pos (32 / blend_width c.args.k)) rest scale
    (weight_sfits _ (own_fits c.args.k c.args.share c.requires.size.low c.requires.size.high c.requires.some c.requires.within))

pub returns-clause-positive : goal.returns-clause-positive
returns-clause-positive c =
    subst (λ (z : ℤ). pos 0 ≤ℤ z) (sym (returns-clause-value c))
    (own_fits c.args.k c.args.share c.requires.size.low c.requires.size.high c.requires.some c.requires.within).positive

pub returns-clause-few : goal.returns-clause-few
returns-clause-few c =
    subst (λ (z : ℤ). z ≤ℤ pos 32) (sym (returns-clause-value c))
    (own_fits c.args.k c.args.share c.requires.size.low c.requires.size.high c.requires.some c.requires.within).few
