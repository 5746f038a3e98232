-- The half that the definition takes.
use Rattle.std.proofs.Common.{◌∙◌, w32}
use Rattle.std.proofs.lemmas.Int.{to_z-of_z}
use Rattle.mesh_model.specs.Height.{lower_end}
use Rattle.mesh_plain_heights.proofs.Blends.{half_is}
use Rattle.mesh_plain_heights.proofs.heights.lower_end.Goals as goal

pub returns : goal.returns
unfolding lower_end
returns c =
    record {
      value =
          to_z-of_z w32 c.floor_div.result (record { sfits = c.floor_div.type_inv })
          ∙ half_is c.floor_div.ensures.value c.args.i (to_z-of_z w32 c.args.i c.ranges.i);
    }
