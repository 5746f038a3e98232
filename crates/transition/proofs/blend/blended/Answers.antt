use Rattle.std.proofs.Common.{◌≡◌, ◌∙◌, w16, w32}
use Rattle.std.proofs.lemmas.Int.{to_z-of_z}
use Rattle.mesh_model.specs.Height.{blend_share}
use Rattle.transition.specs.Weights.{mean_by}
use Rattle.transition.proofs.Weights.{blend_is}
use Rattle.transition.proofs.blend.blended.Goals as goal
use mir.Val.{to_z, of_z}

pub returns : goal.returns
returns c =
    let i = to_z-of_z w32 c.args.i c.ranges.i in
    let j = to_z-of_z w32 c.args.j c.ranges.j in
    let own = to_z-of_z w16 c.args.own c.ranges.own in
    let a = to_z-of_z w16 c.args.a c.ranges.a in
    let b = to_z-of_z w16 c.args.b c.ranges.b in
    let share : to_z w32 (of_z w32 c.blend_share.result) ≡ blend_share c.args.k c.args.coarsest c.args.active c.args.i c.args.j = to_z-of_z w32 c.blend_share.result (record { sfits = c.blend_share.type_inv }) ∙ c.blend_share.ensures.value ∙ (λ t. blend_share c.args.k c.args.coarsest c.args.active (i t) (j t)) in
    record {
      value =
          to_z-of_z w32 c.mean.result (record { sfits = c.mean.type_inv })
          ∙ c.mean.ensures
          ∙ (λ t. mean_by c.args.k (share t) (own t) (a t) (b t))
          ∙ blend_is c.args.k c.args.coarsest c.args.active c.args.i c.args.j c.args.own c.args.a c.args.b;
    }
