-- The two cases of the definition.
use Rattle.std.proofs.Common.{◌≡◌, ◌≤ℤ◌, ◌-ℤ◌, ◌∙◌, ℤ, pos, Bool, false, refl, ap, subst, sym, w32, w64, rules, arith}
use Rattle.std.specs.Int.{int_max}
use Rattle.std.proofs.lemmas.Int.{ints, to_z-of_z}
use Rattle.plan_model.specs.Window.{blend_width}
use Rattle.mesh_model.specs.Height.{border_distance, blend_share}
use Rattle.transition.proofs.Weights.{share_read}
use Rattle.transition.proofs.blend.blend_share.Goals as goal
use mir.Val.{to_z, of_z}
use Rattle.mesh_model.proofs.Weights.{share_fits, share_is}

pub returns-then-coarsest-clause-value : goal.returns-then-coarsest-clause-value
unfolding blend_share
returns-then-coarsest-clause-value c = search rules

distance_is : (c : goal.After-max) → to_z w64 (of_z w64 c.border_distance.result) ≡ border_distance c.args.active c.args.i c.args.j
distance_is c =
    let i = to_z-of_z w32 c.args.i c.ranges.i in
    let j = to_z-of_z w32 c.args.j c.ranges.j in
    to_z-of_z w64 c.border_distance.result (record { sfits = c.border_distance.type_inv })
    ∙ c.border_distance.ensures.value
    ∙ (λ t. border_distance c.args.active (i t) (j t))

share : (c : goal.After-max) → to_z w64 (of_z w64 c.max.result) ≡ blend_share c.args.k false c.args.active c.args.i c.args.j
share c =
    let distance : to_z w64 (of_z w64 c.border_distance.result) ≡ border_distance c.args.active c.args.i c.args.j = distance_is c in
    let inner : to_z w64 (of_z w64 (to_z w64 (of_z w64 c.from-width.result) -ℤ to_z w64 (of_z w64 c.border_distance.result))) ≡ pos (blend_width c.args.k) -ℤ border_distance c.args.active c.args.i c.args.j = omega (arith, ints) in
    share_is c.args.k false c.args.active c.args.i c.args.j (to_z w64 (of_z w64 c.max.result)) refl
    (to_z-of_z w64 c.max.result (record { sfits = c.max.type_inv }) ∙ c.max.ensures.value ∙ ap (int_max (pos 0)) inner)

pub overflow_cast-result : goal.overflow_cast-result
overflow_cast-result c =
    share_read c.args.k c.args.active c.args.i c.args.j (to_z w64 (of_z w64 c.max.result)) c.requires.k.low c.requires.k.high c.requires.inside (share c)

read : (c : goal.After-max) → to_z w32 (of_z w32 (to_z w64 (of_z w64 c.max.result))) ≡ blend_share c.args.k false c.args.active c.args.i c.args.j
read c = to_z-of_z w32 (to_z w64 (of_z w64 c.max.result)) (overflow_cast-result c) ∙ share c

pub returns-clause-value : goal.returns-clause-value
returns-clause-value c =
    read c ∙ ap (λ (b : Bool). blend_share c.args.k b c.args.active c.args.i c.args.j) (sym c.if-coarsest.false)

pub returns-clause-some : goal.returns-clause-some
returns-clause-some c =
    subst (λ (z : ℤ). pos 0 ≤ℤ z) (sym (read c)) (share_fits c.args.k c.args.active c.args.i c.args.j c.requires.inside).some

pub returns-clause-within : goal.returns-clause-within
returns-clause-within c =
    subst (λ (z : ℤ). z ≤ℤ pos (blend_width c.args.k)) (sym (read c)) (share_fits c.args.k c.args.active c.args.i c.args.j c.requires.inside).within
