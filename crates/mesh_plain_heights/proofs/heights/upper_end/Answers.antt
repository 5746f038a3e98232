-- The half that the definition takes.
use Rattle.std.proofs.Common.{pos, ◌+ℤ◌, ◌∙◌, w32, arith}
use Rattle.std.proofs.lemmas.Int.{ints, to_z-of_z}
use Rattle.mesh_model.specs.Height.{upper_end}
use Rattle.mesh_plain_heights.proofs.Blends.{half_is}
use Rattle.mesh_plain_heights.proofs.heights.upper_end.Goals as goal

pub returns : goal.returns
unfolding upper_end
returns c =
    record {
      value =
          to_z-of_z w32 c.floor_div.result (record { sfits = c.floor_div.type_inv })
          ∙ half_is c.floor_div.ensures.value (c.args.i +ℤ pos 1) (omega (arith, ints));
    }
