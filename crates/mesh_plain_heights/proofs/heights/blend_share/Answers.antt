-- The two cases of the definition.
use Rattle.std.proofs.Common.{◌≡◌, pos, ◌-ℤ◌, ◌∙◌, ap, w32, arith, rules}
use Rattle.std.specs.Int.{int_max}
use Rattle.std.proofs.lemmas.Int.{ints, to_z-of_z}
use Rattle.plan_model.specs.Window.{blend_width}
use Rattle.mesh_model.specs.Height.{border_distance, blend_share}
use Rattle.mesh_plain_heights.proofs.heights.blend_share.Goals as goal
use mir.Val.{to_z, of_z}
use Rattle.mesh_model.proofs.Weights.{share_is}

pub returns-then-coarsest : goal.returns-then-coarsest
unfolding blend_share
returns-then-coarsest c = record { value = search rules }

pub returns-else-coarsest : goal.returns-else-coarsest
returns-else-coarsest c =
    record {
      value =
          let inner : to_z w32 (of_z w32 (to_z w32 (of_z w32 c.blend_width.result) -ℤ to_z w32 (of_z w32 c.border_distance.result))) ≡ pos (blend_width c.args.k) -ℤ border_distance c.args.region.now c.args.cell.now.i c.args.cell.now.j = omega (arith, ints) in
          let value : c.max.result ≡ int_max (pos 0) (to_z w32 (of_z w32 (to_z w32 (of_z w32 c.blend_width.result) -ℤ to_z w32 (of_z w32 c.border_distance.result)))) = c.max.ensures.value in
          share_is c.args.k c.args.coarsest c.args.region.now c.args.cell.now.i c.args.cell.now.j (to_z w32 (of_z w32 c.max.result)) c.if-coarsest.false
          (to_z-of_z w32 c.max.result (record { sfits = c.max.type_inv }) ∙ value ∙ ap (int_max (pos 0)) inner);
    }
