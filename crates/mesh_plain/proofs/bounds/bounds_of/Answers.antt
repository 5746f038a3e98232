-- The six numbers are those of the definition.
use Rattle.std.proofs.Common.{ap, ◌∙◌, w32}
use Rattle.std.proofs.lemmas.Int.{to_z-of_z}
use Rattle.mesh_model.specs.Mesh.{least, greatest}
use Rattle.mesh_plain.proofs.Boxes.{box_is}
use Rattle.mesh_plain.proofs.bounds.bounds_of.Goals as goal

pub returns : goal.returns
returns c = record {
  value = box_is c.args.vertices.now _ _ _ _ _ _
      (to_z-of_z w32 c.least.result (record { sfits = c.least.type_inv }) ∙ c.least.ensures.value ∙ ap least (c.as_slice.ensures.value ∙ c.in_ok-columns.ensures))
      (to_z-of_z w32 c.greatest.result (record { sfits = c.greatest.type_inv }) ∙ c.greatest.ensures.value ∙ ap greatest (c.as_slice-2.ensures.value ∙ c.in_ok-columns.ensures))
      (to_z-of_z w32 c.least-2.result (record { sfits = c.least-2.type_inv }) ∙ c.least-2.ensures.value ∙ ap least (c.as_slice-3.ensures.value ∙ c.in_ok-rows.ensures))
      (to_z-of_z w32 c.greatest-2.result (record { sfits = c.greatest-2.type_inv }) ∙ c.greatest-2.ensures.value ∙ ap greatest (c.as_slice-4.ensures.value ∙ c.in_ok-rows.ensures))
      (to_z-of_z w32 c.least-3.result (record { sfits = c.least-3.type_inv }) ∙ c.least-3.ensures.value ∙ ap least (c.as_slice-5.ensures.value ∙ c.in_ok-heights.ensures))
      (to_z-of_z w32 c.greatest-3.result (record { sfits = c.greatest-3.type_inv }) ∙ c.greatest-3.ensures.value ∙ ap greatest (c.as_slice-6.ensures.value ∙ c.in_ok-heights.ensures));
}
