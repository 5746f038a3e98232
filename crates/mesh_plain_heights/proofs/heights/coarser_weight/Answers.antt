-- The weight is that of the definition, and so it is small.
use Rattle.std.proofs.Common.{◌≡◌, ◌/◌, ℤ, pos, ◌≤ℤ◌, subst, sym, w32, arith}
use Rattle.std.proofs.lemmas.Int.{ints, to_z-of_z}
use Rattle.plan_model.specs.Window.{blend_width}
use Rattle.mesh_plain_heights.specs.Drawn.{coarser_weight}
use Rattle.mesh_plain_heights.proofs.Weights.{coarser_fits}
use Rattle.mesh_plain_heights.proofs.heights.coarser_weight.Goals as goal
use mir.Val.{to_z, of_z}
use Rattle.mesh_model.proofs.Weights.{weight_sfits, product_is}

pub returns-clause-value : goal.returns-clause-value
unfolding coarser_weight
returns-clause-value c =
    let scale : to_z w32 (of_z w32 c.coarser_scale.result) ≡ pos (16 / blend_width c.args.k) = omega (arith, ints) in
    product_is _ _ c.args.share (pos (16 / blend_width c.args.k)) (to_z-of_z w32 c.args.share c.ranges.share) scale
    (weight_sfits _ (coarser_fits c.args.k c.args.share c.requires.size.low c.requires.size.high c.requires.some c.requires.within))

pub returns-clause-positive : goal.returns-clause-positive
returns-clause-positive c =
    subst (λ (z : ℤ). pos 0 ≤ℤ z) (sym (returns-clause-value c))
    (coarser_fits c.args.k c.args.share c.requires.size.low c.requires.size.high c.requires.some c.requires.within).positive

pub returns-clause-few : goal.returns-clause-few
returns-clause-few c =
    subst (λ (z : ℤ). z ≤ℤ pos 32) (sym (returns-clause-value c))
    (coarser_fits c.args.k c.args.share c.requires.size.low c.requires.size.high c.requires.some c.requires.within).few
